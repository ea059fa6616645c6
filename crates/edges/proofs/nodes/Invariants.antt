-- `edges::nodes` meets its contract. The loop's invariant: the row holds the heads of the triggers below i that count.
-- Assumes nothing.
use Rattle.reach_row.specs.Row.{RowIs}
use Rattle.edges.specs.Laws.{node_below}
use Rattle.edges.proofs.nodes.Given as goal

abbrev pub invariant-loop-i : goal.invariant-loop-i
invariant-loop-i l =
    RowIs (node_below l.n l.triggers l.i) l.heads
