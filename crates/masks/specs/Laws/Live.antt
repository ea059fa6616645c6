-- An event is live by one comparison. Of each mask only the highest priority matters, and it is the higher the fewer leading zeros the mask has: an enable needs fewer than
-- the conflicting disable, a disable needs a priority and no more than the conflicting enable.
-- Assumes nothing.
use Rattle.std.specs.Prelude.{◌≡◌, Bool, not, ◌&&◌, List, ltb, get_or}
use Rattle.std.proofs.Math.Path.{refl, sym}
use Rattle.std.proofs.Common.{◌∙◌, subst, ⊎_elim, add-zero, pow-suc, add-one}
use Rattle.std.proofs.Math.Logic.{by_cases}
use Rattle.std.proofs.Math.Bool.{true, false}
use Prim.Native.Nat.{ℕ, zero, suc, ◌+◌, ◌-◌, ◌*◌, ◌/◌, ◌%◌, ◌^◌, ◌≤◌, ◌<◌}
use Rattle.std.proofs.Math.Decide.{dec_lt}
use native.Mathlib.Omega.{arith}
use Rattle.std.proofs.Math.Dec.{leb}
use Rattle.std.proofs.Math.Pow.{high}
use Rattle.std.specs.Int.Count.{count_leading_zeros, leading_of_zero, leading_le}
use Rattle.std.proofs.lemmas.Nat.{leading_top, leading_length}
use borrow.Author.Tests.{ltb-true, lt-ltb, le-ltb, leb-true, le-leb, eq-eqb, ne_eqb, eqb-false, not-true}
use Rattle.theory.specs.Numbers.{EVENTS, PRIORITIES}
use Rattle.theory.specs.Below.{any_below}
use Rattle.theory.specs.Events.{odd, conf, blocks, blocked, nonblocked}
use Rattle.theory.proofs.Laws.Tests.{and_left, and_right, and_both, test, not_both, fails_not, is_false, bool_ext}
use Rattle.theory.proofs.Laws.Below.{any_intro, any_elim}
use Rattle.tables.specs.Buffers.{bit, events_of}
use Rattle.masks.specs.Masks.{alive_in}
use Rattle.masks.specs.Laws.Bits.{bit_high}

-- ---- the highest weight of a number of k bits stands under its leading zeros

bit_top : (n j : ℕ) → 2 ^ j ≤ n → n < 2 ^ suc j → bit n j ≡ true
unfolding bit
bit_top n j l h =
    let z : 1 * 2 ^ j + (n - 2 ^ j) ≡ n = omega arith in
    let o : n / 2 ^ j ≡ 1 = subst (λ (m : ℕ). m / 2 ^ j ≡ 1) z (high 1 j {lo = n - 2 ^ j} (omega (arith, pow-suc 2 j))) in
    rw o refl

highest : (k n : ℕ) → n < 2 ^ k → count_leading_zeros k n < k → (j : ℕ) × (count_leading_zeros k n + suc j ≡ k) × (bit n j ≡ true)
highest k zero h l = absurd (omega (arith, leading_of_zero k))
highest k (suc m) h l = let t = leading_top k (suc m) (omega arith) h in (t.0, t.1, bit_top (suc m) t.0 t.2 t.3)

none_higher : (k n q : ℕ) → n < 2 ^ k → bit n q ≡ true → count_leading_zeros k n + q < k
none_higher k n q h b =
    let m = leading_length k n h in
    by_cases (dec_lt q m.0)
    (λ (x : q < m.0). omega (arith, m.1))
    (λ (x : ¬ (q < m.0)). not_both b (bit_high n m.0 q m.2 (omega arith)))

-- ---- alive: the leading zeros of the two masks compared

module _ (own against e : ℕ) (ho : own < 2 ^ PRIORITIES) (ha : against < 2 ^ PRIORITIES) where
  abbrev a : ℕ
  a = count_leading_zeros PRIORITIES own

  abbrev b : ℕ
  b = count_leading_zeros PRIORITIES against

  abbrev blocking : ℕ → ℕ → Bool
  blocking q r = bit against r && blocks e r q

  abbrev unblocked : ℕ → Bool
  unblocked q = bit own q && not (any_below PRIORITIES (blocking q))

  -- what blocks q is a priority from q + d on: d is 0 for an enable and 1 for a disable
  abbrev BlockedFrom : ℕ → Type 0
  BlockedFrom d = (r q : ℕ) → blocks e r q ≡ leb (q + d) r

  alive_to : (d : ℕ) → BlockedFrom d → alive_in own against e ≡ true → (a < PRIORITIES) × (a < b + d)
  unfolding alive_in
  alive_to d from h =
      let r = any_elim PRIORITIES unblocked h in
      let q : ℕ = r.0 in
      let up : a + q < PRIORITIES = none_higher PRIORITIES own q ho (and_left (bit own q) (not (any_below PRIORITIES (blocking q))) r.2) in
      let free : any_below PRIORITIES (blocking q) ≡ false = not-true (any_below PRIORITIES (blocking q)) (and_right (bit own q) (not (any_below PRIORITIES (blocking q))) r.2) in
      by_cases (dec_lt a (b + d))
      (λ (x : a < b + d). (omega arith, x))
      (λ (x : ¬ (a < b + d)).
      let t = highest PRIORITIES against ha (omega arith) in
      not_both (any_intro PRIORITIES (blocking q) t.0 (omega (arith, t.1)) (and_both t.2 (from t.0 q ∙ le-leb (q + d) t.0 (omega (arith, t.1))))) free)

  alive_of : (d : ℕ) → BlockedFrom d → a < PRIORITIES → a < b + d → alive_in own against e ≡ true
  unfolding alive_in
  alive_of d from s h =
      let t = highest PRIORITIES own ho s in
      let q : ℕ = t.0 in
      let free : any_below PRIORITIES (blocking q) ≡ false
      = is_false (any_below PRIORITIES (blocking q)) (λ x.
      let r = any_elim PRIORITIES (blocking q) x in
      let i : bit against r.0 ≡ true = and_left (bit against r.0) (blocks e r.0 q) r.2 in
      let u : leb (q + d) r.0 ≡ true = sym (from r.0 q) ∙ and_right (bit against r.0) (blocks e r.0 q) r.2 in
      omega (arith, t.1, none_higher PRIORITIES against r.0 ha i, leb-true (q + d) r.0 u)) in
      any_intro PRIORITIES unblocked q (omega (arith, t.1)) (and_both t.2 (fails_not free))

  -- an enable is alive where its highest priority is above the conflicting event's
  pub alive_enable : e % 2 ≡ 1 → alive_in own against e ≡ ltb (count_leading_zeros PRIORITIES own) (count_leading_zeros PRIORITIES against)
  unfolding blocks
  alive_enable o =
      let from : BlockedFrom 0 = λ r q. rw (eq-eqb (e % 2) 1 o, add-zero) refl in
      bool_ext (alive_in own against e) (ltb a b)
      (λ h. lt-ltb a b (omega (arith, (alive_to 0 from h).1)))
      (λ h. let l = ltb-true a b h in alive_of 0 from (omega (arith, leading_le PRIORITIES against)) (omega arith))

  -- a disable is alive where it has a priority, and the highest is not below the conflicting event's
  pub alive_disable : (e % 2 ≡ 1 → ⊥)
      → alive_in own against e ≡ (ltb (count_leading_zeros PRIORITIES own) PRIORITIES && leb (count_leading_zeros PRIORITIES own) (count_leading_zeros PRIORITIES against))
  unfolding blocks
  alive_disable o =
      let from : BlockedFrom 1 = λ r q. rw (ne_eqb (e % 2) 1 o, add-one) refl in
      bool_ext (alive_in own against e) (ltb a PRIORITIES && leb a b)
      (λ h. let r = alive_to 1 from h in and_both (lt-ltb a PRIORITIES r.0) (le-leb a b (omega (arith, r.1))))
      (λ h.
      let s = ltb-true a PRIORITIES (and_left (ltb a PRIORITIES) (leb a b) h) in
      let l = leb-true a b (and_right (ltb a PRIORITIES) (leb a b) h) in
      alive_of 1 from s (omega arith))

-- ---- live: alive in the masks of a buffer

conf_below : (e : ℕ) → e < EVENTS → conf e < EVENTS
unfolding conf
conf_below e h =
    ⊎_elim
    (λ (t : odd e ≡ true). rw t (omega arith))
    (λ (f : odd e ≡ false). rw f (omega (arith, eqb-false (e % 2) 1 f)))
    (test (odd e))

-- an event is live where it is alive in its own mask against that of the conflicting event
pub live_is : (l : List ℕ) (e : ℕ) → e < EVENTS → nonblocked (events_of l) (events_of l) e ≡ alive_in (get_or l e 0) (get_or l (conf e) 0) e
unfolding nonblocked blocked alive_in
live_is l e h = rw (lt-ltb e EVENTS h, lt-ltb (conf e) EVENTS (conf_below e h)) refl

-- what is no event has no member in a buffer
pub live_none : (l : List ℕ) (e : ℕ) → EVENTS ≤ e → nonblocked (events_of l) (events_of l) e ≡ false
unfolding nonblocked any_below
live_none l e h = rw (le-ltb e EVENTS h) refl
