-- `edges::draw_trigger` meets its contract. The loop's invariant: the edges of the body events below j are drawn. A trigger that does not count draws none.
-- Assumes nothing.
use Rattle.tables.specs.Layout.{trigger_at}
use Rattle.reach_rows.specs.Rows.{Become}
use Rattle.edges.specs.Drawing.{tail_of, added_from}
use Rattle.edges.specs.Laws.{body_edges}
use Rattle.edges.proofs.draw_trigger.Given as goal

abbrev pub invariant-loop-j : goal.invariant-loop-j
invariant-loop-j l =
    Become (added_from l.heads (body_edges (tail_of l.negative) (trigger_at l.triggers l.i) l.j)) l.initial.rows l.rows
