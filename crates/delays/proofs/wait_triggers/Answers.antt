-- `delays::wait_triggers` meets its contract. The loop's invariant: the entries of the first i triggers have joined.
-- Assumes nothing.
use mathlib.Core.Path.{refl, ◌∙◌}
use Rattle.tables.proofs.Laws.{head_byte, priority_byte, delay_byte}
use Rattle.masks.specs.Laws.Joins.{joins_none, joins_next}
use Rattle.delays.specs.Laws.{trigger_entry_lem}
use Rattle.delays.proofs.wait_triggers.Goals as goal

pub loop-i-init : goal.loop-i-init
loop-i-init c =
    (refl, joins_none _ _)

pub loop-i-preserved : goal.loop-i-preserved
loop-i-preserved c =
    let j = c.join_where in
    let l = c.loop-i in
    (j.auto.buffer ∙ l.invariant.0, joins_next _ _ _ _ _ _ l.invariant.1 (trigger_entry_lem _ _ _ _ _ _ _ _ _ c.comes_to_wait-on.ensures c.place-at.ensures (c.trigger_byte-delay.ensures ∙ delay_byte _ _) (c.trigger_byte-head.ensures ∙ head_byte _ _) (c.trigger_byte.ensures ∙ priority_byte _ _)) j.ensures)
