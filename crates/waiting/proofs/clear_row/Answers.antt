-- `waiting::clear_row` meets its contract. The loop's invariant: the first e numbers of the row are cleared.
-- Assumes nothing.
use mathlib.Core.Path.{refl, ◌∙◌}
use native.Mathlib.Omega.{arith}
use Rattle.masks.specs.Laws.Joins.{writes_none, writes_next}
use Rattle.waiting.proofs.clear_row.Goals as goal

pub loop-e-init : goal.loop-e-init
loop-e-init c =
    (refl, writes_none _ _ _)

pub loop-e-preserved : goal.loop-e-preserved
loop-e-preserved c =
    let s = c.store in
    let l = c.loop-e in
    (s.auto.buffer ∙ l.invariant.0, writes_next _ _ _ _ _ _ _ _ l.invariant.1 (omega (arith, c.place.ensures)) refl s.ensures)
