-- What was read, after each kind of frame: the header's role count, one row more in its table, or the end.
-- Assumes nothing.
use Rattle.std.specs.Prelude.{◌≡◌, List, ℕ, ◌+◌, ◌*◌}
use Rattle.std.proofs.Math.Path.{refl}
use Rattle.std.proofs.Math.Seq.{paste}
use Rattle.tables.specs.Layout.{PERIODIC_BYTES, TRIGGER_BYTES, byte_at}
use Rattle.periodic_frames.specs.Row.{periodic_row}
use Rattle.periodic_frames.specs.Laws.{length_periodic}
use Rattle.trigger_frames.specs.Row.{trigger_row}
use Rattle.trigger_frames.specs.Laws.{length_trigger}
use Rattle.kinds.specs.declared.Stage.TheVariants.{Rows, Ended}
use Rattle.kinds.specs.Kinds.{HEADER, PERIODIC, TRIGGER, END, kind}
use Rattle.sheet_acts.specs.Acts.{seen_after, table_after, Progress, progress, after}

module _ (s : Progress) (f : List ℕ) where
  abbrev n : ℕ
  n = s.seen.counts.periodics

  abbrev m : ℕ
  m = s.seen.counts.triggers

  -- the tables with the frame's row
  abbrev periodic_more : List ℕ
  periodic_more = paste s.tables.periodics (PERIODIC_BYTES * n) (periodic_row f) PERIODIC_BYTES

  abbrev trigger_more : List ℕ
  trigger_more = paste s.tables.triggers (TRIGGER_BYTES * m) (trigger_row f) TRIGGER_BYTES

  abbrev pub with_header : Progress
  with_header = progress (record { line = s.seen.line + 1; stage = Rows; counts = record { roles = byte_at f 2; periodics = n; triggers = m } }) s.tables.periodics s.tables.triggers

  abbrev pub with_periodic : Progress
  with_periodic = progress (record { line = s.seen.line + 1; stage = Rows; counts = record { roles = s.seen.counts.roles; periodics = n + 1; triggers = m } }) periodic_more s.tables.triggers

  abbrev pub with_trigger : Progress
  with_trigger = progress (record { line = s.seen.line + 1; stage = Rows; counts = record { roles = s.seen.counts.roles; periodics = n; triggers = m + 1 } }) s.tables.periodics trigger_more

  abbrev pub with_end : Progress
  with_end = progress (record { line = s.seen.line + 1; stage = Ended; counts = s.seen.counts }) s.tables.periodics s.tables.triggers

  pub after_header : kind f ≡ HEADER → after s f ≡ with_header
  unfolding after seen_after table_after
  after_header k = rw k refl

  pub after_periodic : kind f ≡ PERIODIC → after s f ≡ with_periodic
  unfolding after seen_after table_after
  after_periodic k = rw (k, length_periodic f) refl

  pub after_trigger : kind f ≡ TRIGGER → after s f ≡ with_trigger
  unfolding after seen_after table_after
  after_trigger k = rw (k, length_trigger f) refl

  pub after_end_lem : kind f ≡ END → after s f ≡ with_end
  unfolding after seen_after table_after
  after_end_lem k = rw k refl
