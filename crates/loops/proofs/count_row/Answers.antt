-- `loops::count_row` meets its contract. The loop's invariant: the numbers below e are one more where the row reaches them, and the others are as they came.
-- Assumes nothing.
use Rattle.loops.specs.Laws.Levels.{filled_end}
use borrow.Author.Rules.{rules}
use Rattle.loops.proofs.count_row.Goals as goal

pub returns : goal.returns
returns c =
    let d = c.loop-e in filled_end 128 _ _ d.e _ (search rules) d.invariant
