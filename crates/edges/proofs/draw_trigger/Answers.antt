-- `edges::draw_trigger` meets its contract. The loop's invariant: the edges of the body events below j are drawn. A trigger that does not count draws none.
-- Assumes nothing.
use mathlib.Core.Path.{sym, ap, ◌∙◌}
use borrow.Author.Tests.{not-false}
use Rattle.tables.specs.Layout.{trigger_at}
use Rattle.tables.proofs.Laws.{event_count_byte, head_byte}
use Rattle.edges.specs.Drawing.{tail_of, added_from}
use Rattle.edges.specs.Laws.{body_edges, body_none, body_next, body_end}
use native.Mathlib.Omega.{arith}
use Rattle.edges.proofs.draw_trigger.Goals as goal

pub loop-j-init : goal.loop-j-init
loop-j-init c =
    let a = c.args in
    λ E h. body_none (tail_of a.negative) _ (trigger_at a.triggers.now a.i) E _ h

pub loop-j-preserved : goal.loop-j-preserved
loop-j-preserved c =
    let a = c.args in
    let g = trigger_at a.triggers.now a.i in
    let from = tail_of a.negative in
    let j = c.loop-j.j in
    λ E h.
    body_next from _ g E _ j _ _ _
    (c.tail-from.ensures ∙ ap from c.event.ensures)
    (c.trigger_byte-head.ensures ∙ head_byte _ _)
    c.reaches-on.ensures
    (c.link.ensures (added_from _ (body_edges from g j) E) (c.loop-j.invariant E h))

pub returns : goal.returns
returns c =
    let a = c.args in
    let m = c.trigger_byte-m.ensures ∙ event_count_byte a.triggers.now a.i in
    λ n E h.
    body_end (tail_of a.negative) _ n _ a.i E _ c.loop-j.j
    (omega (arith, m))
    (omega (arith, m))
    (sym (c.counts_at.ensures n) ∙ not-false _ c.if-not-counts_at.false-raw)
    (c.loop-j.invariant E h)
