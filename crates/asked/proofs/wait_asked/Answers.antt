-- `asked::wait_asked` meets its contract. The loop's invariant: the entries of the first k requests have joined.
-- Assumes nothing.
use mathlib.Core.Path.{refl, ◌∙◌}
use Rattle.masks.specs.Laws.Joins.{joins_none, joins_next}
use Rattle.asked.specs.Laws.{wait_entry_lem}
use Rattle.asked.proofs.wait_asked.Goals as goal

pub loop-k-init : goal.loop-k-init
loop-k-init c =
    (refl, joins_none _ _)

pub loop-k-preserved : goal.loop-k-preserved
loop-k-preserved c =
    let j = c.join_where in
    let l = c.loop-k in
    (j.auto.buffer ∙ l.invariant.0, joins_next _ _ _ _ _ _ l.invariant.1 (wait_entry_lem _ _ _ _ c.request_at-r.ensures c.place.ensures) j.ensures)
