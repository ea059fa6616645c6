-- The parts of the test together: rows that hold what is drawn and what is reached give what the definition answers.
-- Assumes nothing.
use Rattle.std.specs.Prelude.{◌≡◌, Bool, true, false, ◌||◌, ℕ, ◌/◌, ◌%◌, ◌<◌, Option}
use Rattle.std.proofs.Math.Path.{ap, ap₂}
use Rattle.std.proofs.Common.{◌∙◌}
use Rattle.std.proofs.Math.Bool.{◌&&◌, or_comm}
use mathlib.Core.List.{List}
use native.Mathlib.Omega.{arith}
use Rattle.theory.specs.Numbers.{EVENTS}
use Rattle.theory.specs.Below.{count_below, first_below}
use Rattle.theory.specs.Sheet.{Sheet}
use Rattle.theory.specs.Graph.{node, plus, minus, edge}
use Rattle.theory.specs.LoopTest.{through, reach, PAIRS, loop_place, level_of}
use Rattle.theory.proofs.Laws.First.{first_same}
use Rattle.tables.specs.Layout.{triggers_of}
use Rattle.reach_row.specs.Row.{Row, RowIs}
use Rattle.reach_rows.specs.Rows.{edges_of, RowsAre, Become}
use Rattle.reach_rows.specs.Laws.Rows.{rows_same, rows_say}
use Rattle.edges.specs.Drawing.{tail_of, draws_below, added_from}
use Rattle.edges.specs.Laws.{draws_all}
use Rattle.loops.specs.declared.Tested.{Tested}
use Rattle.loops.specs.Tested.{found_at, cycle_at, tabulate, tested}
use Rattle.loops.specs.Laws.Levels.{count_same, tabulate_same}

-- rows that hold the − edges and rows that hold the reach give the answer
module _ (sh : Sheet) (ms rs : List Row) (hm : RowsAre (minus sh) ms) (hr : RowsAre (reach sh) rs) where
  found_is : found_at (first_below PAIRS (cycle_at (edges_of ms) (edges_of rs))) ≡ found_at (loop_place sh)
  unfolding loop_place
  found_is =
      ap found_at
      (first_same PAIRS (cycle_at (edges_of ms) (edges_of rs)) (cycle_at (minus sh) (reach sh))
      (λ k l.
      let a : k / EVENTS < EVENTS = omega arith in
      let b : k % EVENTS < EVENTS = omega arith in
      ap₂ ◌&&◌ (rows_say hm (k / EVENTS) (k % EVENTS) a b) (rows_say hr (k % EVENTS) (k / EVENTS) b a)))

  levels_are : tabulate EVENTS (λ e. count_below EVENTS (λ x. edges_of rs x e)) ≡ tabulate EVENTS (level_of sh)
  unfolding level_of
  levels_are =
      tabulate_same EVENTS (λ e. count_below EVENTS (λ x. edges_of rs x e)) (λ e. count_below EVENTS (λ x. reach sh x e))
      (λ e l. count_same EVENTS (λ x. edges_of rs x e) (λ x. reach sh x e) (λ x m. rows_say hr x e m l))

-- THE LAW: the rows as the code makes them one after the other
module _ (n : ℕ) (table : List ℕ) (heads : Row) (none ms es rs : List Row) (hh : RowIs (node (triggers_of n table)) heads)
    (hn : RowsAre (λ _ _. false) none)
    (hm : Become (added_from heads (draws_below (tail_of true) (triggers_of n table) n)) none ms)
    (he : Become (added_from heads (draws_below (tail_of false) (triggers_of n table) n)) ms es)
    (hr : Become (λ E. through E EVENTS) es rs) where
  abbrev sh : Sheet
  sh = triggers_of n table

  minus_are : RowsAre (minus sh) ms
  minus_are = rows_same (minus sh) (λ x y l _. draws_all (tail_of true) heads n table hh x y l) (hm (λ _ _. false) hn)

  edges_are : RowsAre (edge sh) es
  unfolding edge
  edges_are =
      rows_same (edge sh)
      (λ x y l _. ap (λ (t : Bool). minus sh x y || t) (draws_all (tail_of false) heads n table hh x y l) ∙ or_comm (minus sh x y) (plus sh x y))
      (he (minus sh) minus_are)

  pub tested_is : (f : Option (ℕ × ℕ)) (l : List ℕ) → f ≡ found_at (first_below PAIRS (cycle_at (edges_of ms) (edges_of rs))) → l ≡ tabulate EVENTS (λ e. count_below EVENTS (λ x. edges_of rs x e))
      → ◌≡◌ {A = Tested} (record { found = f; levels = l }) (tested sh)
  unfolding tested
  tested_is f l p q =
      let r : RowsAre (reach sh) rs = hr (edge sh) edges_are in
      ap₂ (λ (f : Option (ℕ × ℕ)) (l : List ℕ). record { found = f; levels = l }) (p ∙ found_is sh ms rs minus_are r) (q ∙ levels_are sh ms rs minus_are r)
