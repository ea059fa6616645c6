-- `waiting::copy_row` meets its contract. The loop's invariant: the first e numbers of the row are copied.
-- Assumes nothing.
use mathlib.Core.Path.{refl, ap, ◌∙◌}
use native.Mathlib.Omega.{arith}
use Prim.Native.Nat.{ℕ}
use lib.ListN.{get_or}
use Rattle.masks.specs.Laws.Joins.{writes_none, writes_next}
use Rattle.waiting.proofs.copy_row.Goals as goal

pub loop-e-init : goal.loop-e-init
loop-e-init c =
    (refl, writes_none _ _ _)

pub loop-e-preserved : goal.loop-e-preserved
loop-e-preserved c =
    let s = c.store in
    let l = c.loop-e in
    let w = c.args.waiting.now in
    (s.auto.buffer ∙ l.invariant.0, writes_next _ _ _ _ _ _ _ _ l.invariant.1 (omega (arith, c.index.ensures)) (c.number-mask.ensures ∙ ap (λ (k : ℕ). get_or w k 0) (omega (arith, c.place.ensures))) s.ensures)
