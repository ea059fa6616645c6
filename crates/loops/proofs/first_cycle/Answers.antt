-- `loops::first_cycle` meets its contract. The invariants: no pair before the one at hand is a − edge on a cycle, in the inner loop by from and to, in the outer by from.
-- Assumes nothing.
use native.Mathlib.Omega.{arith}
use Rattle.reach_rows.specs.Rows.{edges_of}
use Rattle.reach_rows.specs.Laws.Rows.{no_edge}
use Rattle.loops.specs.Laws.Search.{pairs_past, first_pair, no_pair}
use borrow.Author.Rules.{rules}
use Rattle.loops.proofs.first_cycle.Goals as goal
use Rattle.loops.proofs.first_cycle.Goals.{then-some+else-loop-to-test, else-some}

pub returns-then-on_cycle : goal.returns-then-on_cycle
returns-then-on_cycle c =
    first_pair (edges_of _) (edges_of _) c.loop-from.from c.loop-to.to (search rules) (search rules) _ c.on_cycle.ensures c.loop-to.invariant c.if-on_cycle.true

pub loop-from-preserved : goal.loop-from-preserved
loop-from-preserved c = λ k l.
    elim c.if-some.branch [
      | then-some+else-loop-to-test w ↦ w.loop-to.invariant k (omega arith)
      | else-some w ↦ pairs_past (edges_of _) (edges_of _) c.loop-from.from (no_edge _ c.loop-from.from c.index.result _ c.index.ensures c.some.ensures w.if-some.false) c.loop-from.invariant k l
    ]

pub returns-after-loop-from : goal.returns-after-loop-from
returns-after-loop-from c =
    no_pair (edges_of _) (edges_of _) (λ k l. c.loop-from.invariant k (omega arith))
