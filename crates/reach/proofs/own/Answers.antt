-- `reach::own` meets its contract. The loop's invariant: the events below a reach themselves.
-- Assumes nothing.
use lib.Dec.{eqb}
use Rattle.reach.specs.Laws.{so_far, own_next, own_end}
use borrow.Author.Rules.{rules}
use Rattle.reach.proofs.own.Goals as goal

pub loop-a-preserved : goal.loop-a-preserved
loop-a-preserved c =
    let d = c.loop-a in
    λ E h. own_next E _ d.a (c.link.ensures (so_far eqb d.a E) (d.invariant E h))

pub returns : goal.returns
returns c =
    let d = c.loop-a in
    λ E h. own_end E _ d.a (search rules) (d.invariant E h)
