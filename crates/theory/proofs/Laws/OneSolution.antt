-- Demand 3 on the model's level: of a sheet in good order without a loop, with any roles and any givens, exactly one set solves the equation.
-- Assumes nothing.
use Rattle.std.specs.Prelude.{◌≡◌, true, ◌&&◌, ℕ, suc, ◌≤◌, ◌<◌, ltb}
use Rattle.std.proofs.Common.{arith, ltb-true, lt-ltb}
use Rattle.theory.specs.Numbers.{EVENTS, PRIORITIES}
use Rattle.theory.specs.Below.{ExactlyOne}
use Rattle.theory.specs.Events.{Events, Roles}
use Rattle.theory.specs.Sheet.{Sheet, GoodOrder}
use Rattle.theory.specs.Instant.{ready, Closed, Solves}
use Rattle.theory.specs.Graph.{NoLoop, Levels}
use Rattle.theory.specs.LoopTest.{level_of}
use Rattle.theory.proofs.Laws.Tests.{and_left, and_right, and_both}
use Rattle.theory.proofs.Laws.Limits.{TriggerWithin, trigger_says}
use Rattle.theory.proofs.Laws.Instant.{met_mono}
use Rattle.theory.specs.Solving.{Stratified}
use Rattle.theory.proofs.Laws.Unique.{unique}
use Rattle.theory.proofs.Laws.Exists.{solving, solved}
use Rattle.theory.proofs.Laws.Graph.{HeadsBelow}
use Rattle.theory.proofs.Laws.Levels.{level_most, noloop_levels, up, up_most, levels_stratified, ready_counts}

pub good_trigger : (sh : Sheet) → GoodOrder sh → (i : ℕ) → i < sh.trigger_count → TriggerWithin sh.role_count (sh.trigger i)
good_trigger sh good i l = (trigger_says sh.role_count (sh.trigger i)).0 (good.triggers i l)

pub good_heads : (sh : Sheet) → GoodOrder sh → HeadsBelow sh
good_heads sh good i l = omega (arith, (good_trigger sh good i l).head, good.few_roles)

module _ (sh : Sheet) (level : ℕ → ℕ) (lv : Levels sh level) (ST : Roles) where
  ready_stratified : Stratified sh (ready sh ST) (up sh level)
  ready_stratified = levels_stratified sh level lv (ready sh ST) (ready_counts sh ST)

  -- under any levels that meet the rule, any two solutions are equal
  pub levels_unique : (G S S' : Events) → Solves sh ST G S → Solves sh ST G S' → S ≡ S'
  levels_unique G = unique sh (ready sh ST) G (up sh level) ready_stratified

  -- and where the levels are bounded, there is one
  levels_one : (m : ℕ) → ((e : ℕ) → level e ≤ m) → (G : Events) → ExactlyOne (Solves sh ST G)
  levels_one m h G =
      let S : Events = solving sh (ready sh ST) G (suc (suc m)) in
      let s : Solves sh ST G S = solved sh (ready sh ST) G (up sh level) ready_stratified (suc (suc m)) (λ e. omega (arith, up_most sh level lv m h e)) in
      (S, s, λ S' s'. levels_unique G S' S s' s)

-- THE THEOREM
pub one_solution : (sh : Sheet) → GoodOrder sh → NoLoop sh → (ST : Roles) (G : Events) → ExactlyOne (Solves sh ST G)
one_solution sh good nl ST G = levels_one sh (level_of sh) (noloop_levels sh (good_heads sh good) nl) ST EVENTS (level_most sh) G

-- ---- what a buffer must hold

-- p:e is an event of 0 to 127 with a priority of 0 to 15
abbrev pub InBuffer : Events → Type 0
InBuffer S = (e p : ℕ) → S e p ≡ true → (e < EVENTS) × (p < PRIORITIES)

-- A solution has members only where the givens or the heads have: a buffer of 128 masks of 16 bits holds all of it.
pub solution_in_buffer : (sh : Sheet) → GoodOrder sh → (ST : Roles) (G S : Events) → InBuffer G → Solves sh ST G S → InBuffer S
solution_in_buffer sh good ST G S g s e p h =
    let within : Events = λ e p. ltb e EVENTS && ltb p PRIORITIES in
    let kept : Events = λ e p. S e p && within e p in
    let y : Closed sh (ready sh ST) G S kept
    = record {
      holds_givens = λ e p k. and_both (s.closed.holds_givens e p k) (and_both (lt-ltb _ _ (g e p k).0) (lt-ltb _ _ (g e p k).1));
      holds_heads = λ i l o m.
          and_both
          (s.closed.holds_heads i l o (met_mono S kept S (sh.trigger i) (λ e p k. and_left (S e p) (within e p) k) m))
          (and_both (lt-ltb _ _ (good_heads sh good i l)) (lt-ltb _ _ (good_trigger sh good i l).priority));
    } in
    let k : within e p ≡ true = and_right (S e p) (within e p) (s.least kept y e p h) in
    (ltb-true _ _ (and_left (ltb e EVENTS) (ltb p PRIORITIES) k), ltb-true _ _ (and_right (ltb e EVENTS) (ltb p PRIORITIES) k))
