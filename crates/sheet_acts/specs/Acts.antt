-- What a frame that passed does to what was read so far.
-- Assumes nothing.
use Rattle.std.specs.Prelude.{cond, List, ℕ, ◌+◌, ◌*◌, eqb, length}
use Rattle.std.proofs.Math.Seq.{paste}
use Rattle.tables.specs.declared.Counts.{Counts}
use Rattle.tables.specs.Layout.{byte_at}
use Rattle.tables.specs.Lent.{Tables, tables_of}
use Rattle.periodic_frames.specs.Row.{periodic_row}
use Rattle.trigger_frames.specs.Row.{trigger_row}
use Rattle.kinds.specs.declared.Stage.TheVariants.{Rows, Ended}
use Rattle.kinds.specs.Kinds.{HEADER, PERIODIC, TRIGGER, kind}
use Rattle.sheet_tests.specs.declared.Seen.{Seen}

-- the header's role count; one row more; or the end, since a frame of any other kind was refused
unfoldable pub seen_after : ℕ → ℕ → Seen → Seen
seen_after k roles s =
    let n : Counts = s.counts in
    cond (eqb k HEADER) (record { line = s.line + 1; stage = Rows; counts = record { roles = roles; periodics = n.periodics; triggers = n.triggers } })
    (cond (eqb k PERIODIC) (record { line = s.line + 1; stage = Rows; counts = record { roles = n.roles; periodics = n.periodics + 1; triggers = n.triggers } })
    (cond (eqb k TRIGGER) (record { line = s.line + 1; stage = Rows; counts = record { roles = n.roles; periodics = n.periodics; triggers = n.triggers + 1 } })
    (record { line = s.line + 1; stage = Ended; counts = n })))

-- a table after a frame of kind k: the row at place n, if the table is that of kind w
unfoldable pub table_after : ℕ → ℕ → ℕ → List ℕ → List ℕ → List ℕ
table_after k w n row table = cond (eqb k w) (paste table (length row * n) row (length row)) table

-- what was read so far: the numbers, and both tables
pub record Progress : Type 0 where
  pub seen : Seen
  pub tables : Tables

abbrev pub progress : Seen → List ℕ → List ℕ → Progress
progress s p t = record { seen = s; tables = tables_of p t }

unfoldable pub after : Progress → List ℕ → Progress
after s f =
    progress (seen_after (kind f) (byte_at f 2) s.seen)
    (table_after (kind f) PERIODIC s.seen.counts.periodics (periodic_row f) s.tables.periodics)
    (table_after (kind f) TRIGGER s.seen.counts.triggers (trigger_row f) s.tables.triggers)
