-- `reach_row::joined` meets its contract. The loop's invariant: the events of y below b have joined x.
-- Assumes nothing.
use Rattle.reach_row.specs.Laws.Row.{joined_none, joined_next, joined_end}
use borrow.Author.Rules.{rules}
use Rattle.reach_row.proofs.joined.Goals as goal

pub loop-b-init : goal.loop-b-init
loop-b-init c =
    λ f g h k. joined_none f g _ h

pub loop-b-preserved : goal.loop-b-preserved
loop-b-preserved c =
    let d = c.loop-b in
    λ f g h k. joined_next f g d.r _ d.b (search rules) k (d.invariant f g h k)

pub returns : goal.returns
returns c =
    λ f g h k. joined_end f g _ c.loop-b.b (search rules) (c.loop-b.invariant f g h k)
