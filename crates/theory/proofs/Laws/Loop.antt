-- The loop test is exact and its place is one: a sheet has no loop, or it has one at exactly one place, which the test finds.
-- Assumes nothing.
use Rattle.std.specs.Prelude.{◌≡◌, ◌⊎◌, ◌↔◌, Bool, true, ℕ, ◌/◌, ◌%◌, ◌≤◌, ◌<◌}
use Rattle.std.proofs.Common.{subst₂, arith}
use Rattle.std.proofs.Math.Logic.{inl, inr, ⊎_elim, by_cases}
use Rattle.std.proofs.Math.Decide.{dec_le}
use Rattle.theory.specs.Numbers.{EVENTS}
use Rattle.theory.specs.Events.{conf}
use Rattle.theory.specs.Sheet.{Sheet}
use Rattle.theory.specs.Graph.{minus, edge, OnCycle, NoLoop, pair_place, LoopAt}
use Rattle.theory.specs.LoopTest.{reach, on_cycle, PAIRS, loop_place}
use Rattle.theory.proofs.Laws.Tests.{and_left, and_right, and_both, not_both}
use Rattle.theory.proofs.Laws.First.{NoneBelow, FirstAt, first_says}
use Rattle.theory.proofs.Laws.Reach.{through_sound, through_complete}
use Rattle.theory.proofs.Laws.Graph.{HeadsBelow, drawn_from, drawn_to, edge_to}

-- ---- a loop is at one place only, and not where there is none

pub loop_not : (sh : Sheet) (k : ℕ) → LoopAt sh k → NoLoop sh → ⊥
loop_not sh k l nl = nl l.from l.to l.cycle

pub loop_one : (sh : Sheet) (k j : ℕ) → LoopAt sh k → LoopAt sh j → k ≡ j
loop_one sh k j x y =
    omega (
      arith,
      x.is_pair,
      y.is_pair,
      x.is_first y.from y.to y.from_event y.to_event y.cycle,
      y.is_first x.from x.to x.from_event x.to_event x.cycle,
    )

-- ---- what the test finds

module _ (sh : Sheet) (hb : HeadsBelow sh) where
  -- THE THEOREM: the test of a pair is exact
  pub cycle_exact : (a b : ℕ) → (on_cycle sh a b ≡ true) ↔ OnCycle sh a b
  cycle_exact a b = (
    (λ h. record { negative = and_left (minus sh a b) (reach sh b a) h; back = through_sound (edge sh) EVENTS b a (and_right (minus sh a b) (reach sh b a) h) }),
    (λ c. and_both c.negative (through_complete (edge sh) EVENTS (edge_to sh hb) c.back)),
  )

  abbrev cycle_at : ℕ → Bool
  cycle_at k = on_cycle sh (k / EVENTS) (k % EVENTS)

  none_noloop : NoneBelow PAIRS cycle_at → NoLoop sh
  none_noloop h a b c =
      let x : a < EVENTS = drawn_from sh hb conf a b c.negative in
      let y : b < EVENTS = drawn_to sh hb conf a b c.negative in
      let k : ℕ = pair_place a b in
      let u : a ≡ k / EVENTS = omega arith in
      let v : b ≡ k % EVENTS = omega arith in
      not_both (subst₂ (λ (a b : ℕ). on_cycle sh a b ≡ true) u v ((cycle_exact a b).1 c)) (h k (omega arith))

  first_place : (k : ℕ) → FirstAt PAIRS cycle_at k → LoopAt sh k
  first_place k r =
      record {
        from = k / EVENTS;
        to = k % EVENTS;
        is_pair = omega arith;
        from_event = omega (arith, r.below);
        to_event = omega arith;
        cycle = (cycle_exact (k / EVENTS) (k % EVENTS)).0 r.passes;
        is_first = λ a b x y c.
            let j : ℕ = pair_place a b in
            let u : a ≡ j / EVENTS = omega arith in
            let v : b ≡ j % EVENTS = omega arith in
            by_cases (dec_le k j)
            (λ (m : k ≤ j). m)
            (λ (m : ¬ (k ≤ j)). not_both (subst₂ (λ (a b : ℕ). on_cycle sh a b ≡ true) u v ((cycle_exact a b).1 c)) (r.first j (omega arith)));
      }

  -- THE THEOREM: the test finds no loop where there is none, and else finds its place
  pub loop_or : ((loop_place sh ≡ PAIRS) × NoLoop sh) ⊎ ((loop_place sh < PAIRS) × LoopAt sh (loop_place sh))
  unfolding loop_place
  loop_or =
      ⊎_elim
      (λ (h : (loop_place sh ≡ PAIRS) × NoneBelow PAIRS cycle_at). inl (h.0, none_noloop h.1))
      (λ (r : FirstAt PAIRS cycle_at (loop_place sh)). inr (r.below, first_place (loop_place sh) r))
      (first_says PAIRS cycle_at)

  -- so the test passes exactly the sheets without a loop
  pub noloop_says : (loop_place sh ≡ PAIRS) ↔ NoLoop sh
  noloop_says = (
    (λ h. ⊎_elim (λ (x : (loop_place sh ≡ PAIRS) × NoLoop sh). x.1) (λ (y : (loop_place sh < PAIRS) × LoopAt sh (loop_place sh)). absurd (omega arith)) loop_or),
    (λ nl. ⊎_elim (λ (x : (loop_place sh ≡ PAIRS) × NoLoop sh). x.0) (λ (y : (loop_place sh < PAIRS) × LoopAt sh (loop_place sh)). absurd (loop_not sh (loop_place sh) y.1 nl)) loop_or),
  )

  -- and gives the place of a loop exactly
  pub loop_says : (k : ℕ) → ((k < PAIRS) × (loop_place sh ≡ k)) ↔ LoopAt sh k
  loop_says k = (
    (λ h.
        ⊎_elim
        (λ (x : (loop_place sh ≡ PAIRS) × NoLoop sh). absurd (omega arith))
        (λ (y : (loop_place sh < PAIRS) × LoopAt sh (loop_place sh)). rw h.1 at y.1)
        loop_or),
    (λ l.
        ⊎_elim
        (λ (x : (loop_place sh ≡ PAIRS) × NoLoop sh). absurd (loop_not sh k l x.1))
        (λ (y : (loop_place sh < PAIRS) × LoopAt sh (loop_place sh)). let e : loop_place sh ≡ k = loop_one sh (loop_place sh) k y.1 l in (omega (arith, y.0), e))
        loop_or),
  )
