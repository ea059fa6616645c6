-- `due::add_due` meets its contract. The loop's invariant: the entries of the first i rows have joined.
-- Assumes nothing.
use mathlib.Core.Path.{refl, ◌∙◌}
use Rattle.masks.specs.Laws.Joins.{joins_none, joins_next}
use Rattle.due.specs.Laws.{entry_is}
use Rattle.due.proofs.add_due.Goals as goal

pub loop-i-init : goal.loop-i-init
loop-i-init c =
    (refl, joins_none _ _)

pub loop-i-preserved : goal.loop-i-preserved
loop-i-preserved c =
    let j = c.join_where in
    let l = c.loop-i in
    (j.auto.buffer ∙ l.invariant.0, joins_next _ _ _ _ _ _ l.invariant.1 (entry_is _ _ _ _ _ c.periodic_row-w.ensures c.row_due-on.ensures c.index-event.ensures) j.ensures)
