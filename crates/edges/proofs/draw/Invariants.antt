-- `edges::draw` meets its contract. The loop's invariant: the edges of the triggers below i are drawn.
-- Assumes nothing.
use Rattle.tables.specs.Layout.{triggers_of}
use Rattle.reach_rows.specs.Rows.{Become}
use Rattle.edges.specs.Drawing.{tail_of, draws_below, added_from}
use Rattle.edges.proofs.draw.Given as goal

abbrev pub invariant-loop-i : goal.invariant-loop-i
invariant-loop-i l =
    Become (added_from l.heads (draws_below (tail_of l.negative) (triggers_of l.n l.triggers) l.i)) l.initial.rows l.rows
