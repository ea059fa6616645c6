-- `reach::closed` meets its contract. The loop's invariant: the rows hold the paths between whose ends stand only events below k.
-- Assumes nothing.
use Rattle.reach.specs.Laws.{through_end}
use borrow.Author.Rules.{rules}
use Rattle.reach.proofs.closed.Goals as goal

pub loop-k-preserved : goal.loop-k-preserved
loop-k-preserved c =
    let d = c.loop-k in λ E h. c.go_through.ensures E h (d.invariant E h)

pub returns : goal.returns
returns c =
    let d = c.loop-k in λ E h. through_end E _ d.k (search rules) (search rules) (d.invariant E h)
