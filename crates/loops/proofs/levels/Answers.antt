-- `loops::levels` meets its contract. The loop's invariant: the numbers are the counts of the columns over the rows that are passed.
-- Assumes nothing.
use mathlib.Core.Path.{◌∙◌}
use native.Mathlib.Omega.{arith}
use Prim.Native.Nat.{◌<◌}
use Rattle.loops.specs.Laws.Levels.{length_tabulate, count_of, counts_none, counts_most, counts_next}
use borrow.Author.Rules.{rules}
use Rattle.loops.proofs.levels.Goals as goal

pub loop-row-init : goal.loop-row-init
loop-row-init c =
    counts_none _

pub count_row-requires : goal.count_row-requires
count_row-requires c =
    let d = c.loop-row in
    let m : d.row-index < 128 = search rules in
    (rw d.invariant (length_tabulate 128 (count_of _ d.row-index)), λ e. omega (arith, m, counts_most _ d.row-index _ d.invariant e))

pub loop-row-preserved : goal.loop-row-preserved
loop-row-preserved c =
    let d = c.loop-row in
    c.count_row.ensures ∙ counts_next _ d.row-index _ d.invariant (search rules)
