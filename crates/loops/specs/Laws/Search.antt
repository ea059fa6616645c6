-- Laws of the search: the pairs by number, and what is found.
-- Assumes nothing.
use Rattle.std.specs.Prelude.{◌≡◌, refl, Bool, true, false, ◌&&◌, ℕ, ◌+◌, ◌*◌, ◌/◌, ◌%◌, ◌≤◌, ◌<◌, None, Some}
use Rattle.std.proofs.Common.{sym, ap, ap₂, ◌∙◌, arith, below_more, lt-ltb, le-ltb}
use Rattle.std.proofs.Math.Logic.{by_cases}
use Rattle.std.proofs.Math.Decide.{dec_lt}
use Rattle.theory.specs.Numbers.{EVENTS}
use Rattle.theory.specs.Below.{first_below}
use Rattle.theory.specs.Graph.{Edges, pair_place}
use Rattle.theory.specs.LoopTest.{PAIRS}
use Rattle.theory.proofs.Laws.First.{first_is, first_none}
use Rattle.loops.specs.Tested.{found_at, cycle_at}

-- ---- the pair of a number

from_of : (a b : ℕ) → b < EVENTS → pair_place a b / EVENTS ≡ a
from_of a b l = omega arith

to_of : (a b : ℕ) → b < EVENTS → pair_place a b % EVENTS ≡ b
to_of a b l = omega arith

found_below : (k : ℕ) → k < PAIRS → found_at k ≡ Some (k / EVENTS, k % EVENTS)
unfolding found_at
found_below k l = rw (lt-ltb k PAIRS l) refl

pub found_past : (k : ℕ) → PAIRS ≤ k → found_at k ≡ None
unfolding found_at
found_past k l = rw (le-ltb k PAIRS l) refl

pub found_pair : (a b : ℕ) → pair_place a b < PAIRS → b < EVENTS → found_at (pair_place a b) ≡ Some (a, b)
found_pair a b l m = found_below (pair_place a b) l ∙ ap₂ (λ (x y : ℕ). Some (x, y)) (from_of a b m) (to_of a b m)

-- and the number of a pair
pub found_at_lem : (k a b : ℕ) → found_at k ≡ Some (a, b) → (k < PAIRS) × (b < EVENTS) × (k ≡ pair_place a b)
found_at_lem k a b f =
    by_cases (dec_lt k PAIRS)
    (λ (l : k < PAIRS).
    let g : found_at k ≡ Some (k / EVENTS, k % EVENTS) = found_below k l in
    let e : ◌≡◌ {A = ℕ × ℕ} (a, b) (k / EVENTS, k % EVENTS) = cc in
    let p : a ≡ k / EVENTS = ap (λ (x : ℕ × ℕ). x.0) e in
    let q : b ≡ k % EVENTS = ap (λ (x : ℕ × ℕ). x.1) e in
    (l, omega arith, omega arith))
    (λ (n : ¬ (k < PAIRS)). let g : found_at k ≡ None = found_past k (omega arith) in absurd (let z : ◌≡◌ {A = ℕ} 0 1 = cc in omega arith))

pub found_nothing : (k : ℕ) → found_at k ≡ None → PAIRS ≤ k
found_nothing k f =
    by_cases (dec_lt k PAIRS)
    (λ (l : k < PAIRS). let g : found_at k ≡ Some (k / EVENTS, k % EVENTS) = found_below k l in absurd (let z : ◌≡◌ {A = ℕ} 0 1 = cc in omega arith))
    (λ (n : ¬ (k < PAIRS)). omega arith)

-- ---- pair after pair

module _ (M R : Edges) where
  pair_at : (a b : ℕ) → b < EVENTS → cycle_at M R (pair_place a b) ≡ (M a b && R b a)
  pair_at a b l = rw (from_of a b l, to_of a b l) refl

  -- t tells whether the pair of a and b is a − edge on a cycle, and no pair before it is one
  module _ (a b : ℕ) (l : a < EVENTS) (m : b < EVENTS) (t : Bool) (e : t ≡ (M a b && R b a)) (h : (k : ℕ) → k < pair_place a b → cycle_at M R k ≡ false) where
    pub pairs_next : t ≡ false → (k : ℕ) → k < EVENTS * a + (b + 1) → cycle_at M R k ≡ false
    pairs_next f k n = below_more (λ k. cycle_at M R k ≡ false) (pair_place a b) h (pair_at a b m ∙ sym e ∙ f) k (omega arith)

    pub first_pair : t ≡ true → Some (a, b) ≡ found_at (first_below PAIRS (cycle_at M R))
    first_pair p = sym (ap found_at (first_is PAIRS (cycle_at M R) (pair_place a b) (omega arith) (pair_at a b m ∙ sym e ∙ p) h) ∙ found_pair a b (omega arith) m)

  -- no edge of M leaves a
  pub pairs_past : (a : ℕ) → ((b : ℕ) → b < EVENTS → M a b ≡ false) → ((k : ℕ) → k < EVENTS * a → cycle_at M R k ≡ false) → (k : ℕ) → k < EVENTS * (a + 1) → cycle_at M R k ≡ false
  pairs_past a none h k l =
      by_cases (dec_lt k (EVENTS * a))
      (λ (m : k < EVENTS * a). h k m)
      (λ (m : ¬ (k < EVENTS * a)).
      let b : ℕ = k % EVENTS in
      let e : k ≡ pair_place a b = omega arith in
      rw e (pair_at a b (omega arith) ∙ ap (λ (t : Bool). t && R b a) (none b (omega arith))))

  pub no_pair : ((k : ℕ) → k < PAIRS → cycle_at M R k ≡ false) → None ≡ found_at (first_below PAIRS (cycle_at M R))
  no_pair h = sym (ap found_at (first_none PAIRS (cycle_at M R) h) ∙ found_past PAIRS (omega arith))
