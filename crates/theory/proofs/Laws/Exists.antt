-- Caused(S) is there for every S, by rounds from the empty set: with each round that is not yet closed one row more fires, so one round more than there are rows suffices.
-- Under a stratification S := Caused(S), repeated, reaches a solution.
-- Assumes nothing.
use Rattle.std.specs.Prelude.{◌≡◌, refl, ◌⊎◌, true, false, not, ◌&&◌, ◌||◌, eqb}
use Rattle.std.proofs.Common.{sym, inl, inr, arith, eqb-true, eq-eqb}
use Rattle.std.proofs.Math.Path.{fun_ext, subst}
use Rattle.std.proofs.Math.Logic.{⊎_elim}
use Rattle.std.proofs.Math.Bool.{Bool}
use Rattle.std.proofs.lemmas.Bool.{false≢true, not-false}
use Prim.Native.Nat.{ℕ, zero, suc, ◌≤◌, ◌<◌}
use Rattle.theory.specs.Below.{any_below, count_below}
use Rattle.theory.specs.Events.{Events, Part}
use Rattle.theory.specs.Sheet.{Trigger, Sheet, is}
use Rattle.theory.specs.Instant.{met, Closed, IsLeast}
use Rattle.theory.proofs.Laws.Tests.{and_left, and_right, and_both, or_left, or_right, or_cases, or_none_left, or_none_right}
use Rattle.theory.proofs.Laws.Below.{any_intro, any_elim, all_or, count_le, count_strict}
use Rattle.theory.proofs.Laws.Instant.{met_mono}
use Rattle.theory.specs.Solving.{Stratified, AgreeBelow}
use Rattle.theory.proofs.Laws.Unique.{caused_agree}

abbrev pub none : Events
none e p = false

-- the head of a trigger is p:e
abbrev pub head_is : Trigger → Events
head_is g = is g.head g.priority

pub is_self : (a b : ℕ) → is a b a b ≡ true
is_self a b = and_both (eq-eqb a a refl) (eq-eqb b b refl)

-- what holds of the event a and the priority b holds of p:e, if that is what p:e is
pub is_only : (X : Events) (a b e p : ℕ) → is a b e p ≡ true → X a b ≡ true → X e p ≡ true
is_only X a b e p h x =
    let u : a ≡ e = eqb-true a e (and_left (eqb a e) (eqb b p) h) in
    let v : b ≡ p = eqb-true b p (and_right (eqb a e) (eqb b p) h) in
    rw (u, v) at x

-- trigger i fires
unfoldable pub fire : Sheet → (ℕ → Bool) → Events → Events → ℕ → Bool
fire sh on S X i = on i && met S X (sh.trigger i)

-- the givens, and the heads of the triggers that fire
unfoldable pub round : Sheet → (ℕ → Bool) → Events → Events → Events → Events
round sh on G S X e p = G e p || any_below sh.trigger_count (λ i. fire sh on S X i && head_is (sh.trigger i) e p)

unfoldable pub rounds : Sheet → (ℕ → Bool) → Events → Events → ℕ → Events
rounds sh on G S zero = none
rounds sh on G S (suc m) = round sh on G S (rounds sh on G S m)

unfoldable pub caused : Sheet → (ℕ → Bool) → Events → Events → Events
caused sh on G S = rounds sh on G S (suc sh.trigger_count)

module _ (sh : Sheet) (on : ℕ → Bool) (G S : Events) where
  -- ---- a round

  round_given : (X : Events) → Part G (round sh on G S X)
  unfolding round
  round_given X e p g = or_left (any_below sh.trigger_count (λ i. fire sh on S X i && head_is (sh.trigger i) e p)) g

  round_head : (X : Events) (i : ℕ) → i < sh.trigger_count → fire sh on S X i ≡ true → round sh on G S X (sh.trigger i).head (sh.trigger i).priority ≡ true
  unfolding round
  round_head X i l f =
      let a : ℕ = (sh.trigger i).head in
      let b : ℕ = (sh.trigger i).priority in
      or_right (G a b) (any_intro sh.trigger_count (λ k. fire sh on S X k && head_is (sh.trigger k) a b) i l (and_both f (is_self a b)))

  -- a round stays in Y if the givens and each head of a trigger that fires do
  round_in : (X Y : Events) → Part G Y → ((i : ℕ) → i < sh.trigger_count → fire sh on S X i ≡ true → Y (sh.trigger i).head (sh.trigger i).priority ≡ true) → Part (round sh on G S X) Y
  unfolding round
  round_in X Y g h e p t =
      let fires : ℕ → Bool = λ i. fire sh on S X i && head_is (sh.trigger i) e p in
      ⊎_elim
      (λ (a : G e p ≡ true). g e p a)
      (λ (b : any_below sh.trigger_count fires ≡ true).
      let r = any_elim sh.trigger_count fires b in
      let i : ℕ = r.0 in
      is_only Y (sh.trigger i).head (sh.trigger i).priority e p
      (and_right (fire sh on S X i) (head_is (sh.trigger i) e p) r.2)
      (h i r.1 (and_left (fire sh on S X i) (head_is (sh.trigger i) e p) r.2)))
      (or_cases (G e p) (any_below sh.trigger_count fires) t)

  fire_mono : (X Y : Events) → Part X Y → (i : ℕ) → fire sh on S X i ≡ true → fire sh on S Y i ≡ true
  unfolding fire
  fire_mono X Y s i f =
      let g : Trigger = sh.trigger i in
      and_both (and_left (on i) (met S X g) f) (met_mono S X Y g s (and_right (on i) (met S X g) f))

  round_mono : (X Y : Events) → Part X Y → Part (round sh on G S X) (round sh on G S Y)
  round_mono X Y s = round_in X (round sh on G S Y) (round_given Y) (λ i l f. round_head Y i l (fire_mono X Y s i f))

  -- closed sets are those that a round stays in
  closed_of_part : (X : Events) → Part (round sh on G S X) X → Closed sh on G S X
  unfolding fire
  closed_of_part X s =
      record {
        holds_givens = λ e p g. s e p (round_given X e p g);
        holds_heads = λ i l o b. s (sh.trigger i).head (sh.trigger i).priority (round_head X i l (and_both o b));
      }

  part_of_closed : (X : Events) → Closed sh on G S X → Part (round sh on G S X) X
  unfolding fire
  part_of_closed X c =
      round_in X X c.holds_givens (λ i l f.
      c.holds_heads i l (and_left (on i) (met S X (sh.trigger i)) f) (and_right (on i) (met S X (sh.trigger i)) f))

  -- what a round adds to a part of a closed set is in that set
  pub round_closed : (X Y : Events) → Part X Y → Closed sh on G S Y → Part (round sh on G S X) Y
  round_closed X Y s c e p h = part_of_closed Y c e p (round_mono X Y s e p h)

  -- ---- the rounds

  abbrev at : ℕ → Events
  at m = rounds sh on G S m

  rounds_least : (Y : Events) → Closed sh on G S Y → (m : ℕ) → Part (at m) Y
  unfolding rounds
  rounds_least Y c zero = λ e p h. absurd (false≢true h)
  rounds_least Y c (suc m) = round_closed (at m) Y (rounds_least Y c m) c

  rounds_grow : (m : ℕ) → Part (at m) (at (suc m))
  unfolding rounds
  rounds_grow zero = λ e p h. absurd (false≢true h)
  rounds_grow (suc m) = round_mono (at m) (at (suc m)) (rounds_grow m)

  -- the triggers that fire after m rounds
  firing : ℕ → ℕ
  firing m = count_below sh.trigger_count (fire sh on S (at m))

  -- trigger i does not fire after m + 1 rounds, or did so after m
  settled : ℕ → ℕ → Bool
  settled m i = not (fire sh on S (at (suc m)) i) || fire sh on S (at m) i

  settled_closed : (m : ℕ) → ((i : ℕ) → i < sh.trigger_count → settled m i ≡ true) → Closed sh on G S (at (suc m))
  unfolding settled rounds
  settled_closed m h =
      closed_of_part (at (suc m))
      (round_in (at (suc m)) (at (suc m)) (round_given (at m)) (λ i l f. round_head (at m) i l (rw f at (h i l))))

  unsettled_more : (m i : ℕ) → i < sh.trigger_count → settled m i ≡ false → firing m < firing (suc m)
  unfolding settled firing
  unsettled_more m i l u =
      count_strict sh.trigger_count (fire sh on S (at m)) (fire sh on S (at (suc m)))
      (λ k _. fire_mono (at m) (at (suc m)) (rounds_grow m) k)
      i
      l
      (or_none_right (not (fire sh on S (at (suc m)) i)) (fire sh on S (at m) i) u)
      (not-false _ (or_none_left (not (fire sh on S (at (suc m)) i)) (fire sh on S (at m) i) u))

  closed_next : (m : ℕ) → Closed sh on G S (at m) → Closed sh on G S (at (suc m))
  unfolding rounds
  closed_next m c = closed_of_part (at (suc m)) (round_mono (at (suc m)) (at m) (part_of_closed (at m) c))

  closed_or : (m : ℕ) → Closed sh on G S (at m) ⊎ (m ≤ firing m)
  closed_or zero = inr (omega arith)
  closed_or (suc m) =
      ⊎_elim
      (λ (c : Closed sh on G S (at m)). inl (closed_next m c))
      (λ (l : m ≤ firing m).
      ⊎_elim
      (λ (h : (i : ℕ) → i < sh.trigger_count → settled m i ≡ true). inl (settled_closed m h))
      (λ (r : (i : ℕ) × (i < sh.trigger_count) × (settled m i ≡ false)). inr (omega (arith, unsettled_more m r.0 r.1 r.2)))
      (all_or sh.trigger_count (settled m)))
      (closed_or m)

  firing_le : (m : ℕ) → firing m ≤ sh.trigger_count
  unfolding firing
  firing_le m = count_le sh.trigger_count (fire sh on S (at m))

  caused_closed : Closed sh on G S (caused sh on G S)
  unfolding caused
  caused_closed =
      ⊎_elim
      (λ (c : Closed sh on G S (at (suc sh.trigger_count))). c)
      (λ (l : suc sh.trigger_count ≤ firing (suc sh.trigger_count)). absurd (omega (arith, firing_le (suc sh.trigger_count))))
      (closed_or (suc sh.trigger_count))

  pub caused_is : IsLeast sh on G S (caused sh on G S)
  unfolding caused
  caused_is = record { closed = caused_closed; least = λ Y c. rounds_least Y c (suc sh.trigger_count) }

-- ---- a solution

-- k times S := Caused(S), from the empty set
unfoldable pub solving : Sheet → (ℕ → Bool) → Events → ℕ → Events
solving sh on G zero = none
solving sh on G (suc k) = caused sh on G (solving sh on G k)

module _ (sh : Sheet) (on : ℕ → Bool) (G : Events) (level : ℕ → ℕ) (st : Stratified sh on level) where
  solving_agree : (k : ℕ) → AgreeBelow level k (solving sh on G k) (solving sh on G (suc k))
  unfolding solving
  solving_agree zero = λ e l. absurd (omega arith)
  solving_agree (suc k) =
      caused_agree sh on G level st k (solving sh on G k) (solving sh on G (suc k)) (solving sh on G (suc k)) (solving sh on G (suc (suc k)))
      (solving_agree k)
      (caused_is sh on G (solving sh on G k))
      (caused_is sh on G (solving sh on G (suc k)))

  pub solved : (N : ℕ) → ((e : ℕ) → level e < N) → IsLeast sh on G (solving sh on G N) (solving sh on G N)
  unfolding solving
  solved N b =
      let same : solving sh on G N ≡ solving sh on G (suc N) = fun_ext (λ e. solving_agree N e (b e)) in
      subst (λ (X : Events). IsLeast sh on G (solving sh on G N) X) (sym same) (caused_is sh on G (solving sh on G N))
