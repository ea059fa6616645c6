-- `edges::draw` meets its contract. The loop's invariant: the edges of the triggers below i are drawn.
-- Assumes nothing.
use Rattle.tables.specs.Layout.{triggers_of}
use Rattle.edges.specs.Drawing.{tail_of, draws_below, added_from}
use Rattle.edges.specs.Laws.{draws_none, draws_next, draws_end}
use borrow.Author.Rules.{rules}
use Rattle.edges.proofs.draw.Goals as goal

pub loop-i-init : goal.loop-i-init
loop-i-init c =
    let a = c.args in
    λ E h. draws_none (tail_of a.negative) _ (triggers_of a.n a.triggers.now) E _ h

pub loop-i-preserved : goal.loop-i-preserved
loop-i-preserved c =
    let a = c.args in
    let n = a.n in
    let i = c.loop-i.i in
    let from = tail_of a.negative in
    let sh = triggers_of n a.triggers.now in
    λ E h. draws_next from _ sh E _ i (c.draw_trigger.ensures n (added_from _ (draws_below from sh i) E) (c.loop-i.invariant E h))

pub returns : goal.returns
returns c =
    let a = c.args in
    λ E h. draws_end (tail_of a.negative) _ (triggers_of a.n a.triggers.now) E _ a.n c.loop-i.i (search rules) (search rules) (c.loop-i.invariant E h)
