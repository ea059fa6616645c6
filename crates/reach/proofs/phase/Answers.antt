-- `reach::phase` meets its contract. The loop's invariant: the rows below a have taken over what k reaches. Row k and column k stay as they were, so that it can be done in place.
-- Assumes nothing.
use Rattle.reach.specs.Laws.{so_far, onward, phase_next, phase_end}
use borrow.Author.Rules.{rules}
use Rattle.reach.proofs.phase.Goals as goal

pub loop-a-preserved : goal.loop-a-preserved
loop-a-preserved c =
    let k = c.args.k in
    let a = c.loop-a.a in
    λ E h. phase_next E _ k a (c.take_over.ensures (so_far (onward k E) a E) (c.loop-a.invariant E h))

pub returns : goal.returns
returns c =
    λ E h. phase_end E _ c.args.k c.loop-a.a (search rules) (c.loop-a.invariant E h)
