-- What the loop test's answer says in document 01's words, for triggers whose heads are events.
-- Assumes nothing.
use Rattle.std.specs.Prelude.{◌≡◌, ◌↔◌, ℕ, ◌≤◌, ◌<◌, None, Some}
use Rattle.std.proofs.Common.{sym, ◌∙◌, ⊎_elim, arith}
use Rattle.std.proofs.Math.Path.{ap}
use Rattle.theory.specs.Numbers.{EVENTS}
use Rattle.theory.specs.Events.{conf}
use Rattle.theory.specs.Sheet.{Sheet}
use Rattle.theory.specs.Graph.{NoLoop, pair_place, LoopAt, Levels}
use Rattle.theory.specs.LoopTest.{PAIRS, loop_place, level_of}
use Rattle.theory.proofs.Laws.Graph.{HeadsBelow, drawn_intro, drawn_from}
use Rattle.theory.proofs.Laws.Levels.{noloop_levels}
use Rattle.theory.proofs.Laws.Loop.{loop_or, noloop_says, loop_says}
use Rattle.tables.specs.Layout.{byte_at}
use Rattle.loops.specs.declared.Tested.{Tested}
use Rattle.loops.specs.Tested.{found_at, tested}
use Rattle.loops.specs.Laws.Search.{found_past, found_pair, found_at_lem, found_nothing}
use Rattle.loops.specs.Laws.Levels.{get_d_tabulate}

module _ (sh : Sheet) (r : Tested) (h : r ≡ tested sh) where
  found_is : r.found ≡ found_at (loop_place sh)
  unfolding tested
  found_is = ap (λ (t : Tested). t.found) h

  level_is : (e : ℕ) → e < EVENTS → byte_at r.levels e ≡ level_of sh e
  unfolding tested
  level_is e l = ap (λ (t : Tested). byte_at t.levels e) h ∙ get_d_tabulate EVENTS (level_of sh) e l

  module _ (hb : HeadsBelow sh) where
    -- a pair is found exactly where the sheet has a loop at its place
    pub found_says : (a b : ℕ) → (r.found ≡ Some (a, b)) ↔ ((b < EVENTS) × LoopAt sh (pair_place a b))
    found_says a b = (
      (λ f. let q = found_at_lem (loop_place sh) a b (sym found_is ∙ f) in (q.1, (loop_says sh hb (pair_place a b)).0 (omega arith, q.2))),
      (λ l. let q = (loop_says sh hb (pair_place a b)).1 l.1 in found_is ∙ ap found_at q.1 ∙ found_pair a b q.0 l.0),
    )

    -- nothing is found exactly where it has none
    pub nothing_says : (r.found ≡ None) ↔ NoLoop sh
    nothing_says = (
      (λ f.
          let q : PAIRS ≤ loop_place sh = found_nothing (loop_place sh) (sym found_is ∙ f) in
          ⊎_elim (λ (x : (loop_place sh ≡ PAIRS) × NoLoop sh). x.1) (λ (y : (loop_place sh < PAIRS) × LoopAt sh (loop_place sh)). absurd (omega arith)) (loop_or sh hb)),
      (λ nl. found_is ∙ found_past (loop_place sh) (omega (arith, (noloop_says sh hb).1 nl))),
    )

    -- and then the levels meet the rule
    pub levels_say : r.found ≡ None → Levels sh (byte_at r.levels)
    levels_say f =
        let lv : Levels sh (level_of sh) = noloop_levels sh hb (nothing_says.0 f) in
        record {
          no_lower = λ i j l o m n.
              let a : ℕ = (sh.trigger i).event j in
              let b : ℕ = (sh.trigger i).head in
              let x : a < EVENTS = drawn_from sh hb (λ e. e) a b (drawn_intro sh (λ e. e) i j l o m n) in
              omega (arith, level_is a x, level_is b (hb i l), lv.no_lower i j l o m n);
          above = λ i j l o m n.
              let a : ℕ = conf ((sh.trigger i).event j) in
              let b : ℕ = (sh.trigger i).head in
              let x : a < EVENTS = drawn_from sh hb conf a b (drawn_intro sh conf i j l o m n) in
              omega (arith, level_is a x, level_is b (hb i l), lv.above i j l o m n);
        }
