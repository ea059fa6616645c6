-- `loops::count_row` meets its contract. The loop's invariant: the numbers below e are one more where the row reaches them, and the others are as they came.
-- Assumes nothing.
use Prim.Native.Nat.{◌+◌}
use lib.ListN.{get_or}
use Rattle.theory.specs.Below.{one}
use Rattle.reach_row.specs.Row.{reaches}
use Rattle.loops.specs.Laws.Levels.{Filled}
use Rattle.loops.proofs.count_row.Given as goal

abbrev pub invariant-loop-e : goal.invariant-loop-e
invariant-loop-e l =
    Filled 128 l.initial.counts (λ k. get_or l.initial.counts k 0 + one (reaches l.row k)) l.e l.counts
