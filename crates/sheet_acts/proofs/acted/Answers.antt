-- `sheet_acts::acted` meets its contract: one row at most is put, into the table of its kind, which has room for it.
-- Assumes nothing.
use mathlib.Core.Path.{sym, ◌∙◌}
use Rattle.sheet_acts.specs.Acts.{after}
use Rattle.row_counts.specs.Laws.{room_periodics, room_triggers}
use Rattle.sheet_acts.proofs.acted.Goals as goal

pub put_periodic-requires : goal.put_periodic-requires
put_periodic-requires c =
    λ h. room_periodics _ _ _ c.requires.1 (sym c.byte_at-k.ensures ∙ h)

pub put_trigger-requires : goal.put_trigger-requires
put_trigger-requires c =
    λ h. room_triggers _ _ _ c.requires.1 (sym c.byte_at-k.ensures ∙ h)

pub seen_after-requires : goal.seen_after-requires
seen_after-requires c =
    (c.requires.0, ((λ h. room_periodics _ _ _ c.requires.1 (sym c.byte_at-k.ensures ∙ h)), (λ h. room_triggers _ _ _ c.requires.1 (sym c.byte_at-k.ensures ∙ h))))

pub returns : goal.returns
unfolding after
returns c =
    cc
