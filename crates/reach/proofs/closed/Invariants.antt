-- `reach::closed` meets its contract. The loop's invariant: the rows hold the paths between whose ends stand only events below k.
-- Assumes nothing.
use Rattle.theory.specs.Graph.{Edges}
use Rattle.theory.specs.LoopTest.{through}
use Rattle.reach_rows.specs.Rows.{RowsAre}
use Rattle.reach.proofs.closed.Given as goal

abbrev pub invariant-loop-k : goal.invariant-loop-k
invariant-loop-k l =
    (E : Edges) → RowsAre E l.edges → RowsAre (through E l.k) l.rows
