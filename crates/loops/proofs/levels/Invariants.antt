-- `loops::levels` meets its contract. The loop's invariant: the numbers are the counts of the columns over the rows that are passed.
-- Assumes nothing.
use mathlib.Core.Path.{◌≡◌}
use Rattle.loops.specs.Tested.{tabulate}
use Rattle.loops.specs.Laws.Levels.{count_of}
use Rattle.loops.proofs.levels.Given as goal

abbrev pub invariant-loop-row : goal.invariant-loop-row
invariant-loop-row l =
    l.r ≡ tabulate 128 (count_of l.reach l.row-index)
