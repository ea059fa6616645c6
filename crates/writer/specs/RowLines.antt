-- Which line says which row. How the bytes of a frame say a row stands in one place, with the reader: `periodic_row` (periodic_frames/Row) and `trigger_row` (trigger_frames/Row); of the header and the end, the
-- bytes that a line's tests ask (`line_tests`, sheet_tests/Judge). A line says a row when it is a good line of the row's kind, and the reader takes that row from it, in all its used bytes. (Of a row within its
-- limits in a table of bytes that is one line and no other: Laws/Meets, Laws/OneLine.)
-- Assumes nothing.
use Rattle.std.specs.Prelude.{◌≡◌, true, List, ℕ, ◌+◌, ◌*◌, ◌<◌}
use Rattle.text.specs.Framed.{framed}
use Rattle.frames.specs.Frame.{bytes_of, checked}
use Rattle.tables.specs.Layout.{PERIODIC_BYTES, TRIGGER_BYTES, byte_at, two, trigger_at}
use Rattle.tables.specs.Used.{UsedByte}
use Rattle.periodic_frames.specs.Row.{periodic_row}
use Rattle.trigger_frames.specs.Row.{trigger_row}
use Rattle.kinds.specs.Kinds.{HEADER, PERIODIC, TRIGGER, END, kind, sized}
use Rattle.fields.specs.Fields.{VERSION}

-- A GOOD LINE of kind k, without its final 0A: it passes FRAME and CHECK, it is of that kind, and it has that kind's byte count.
pub record GoodLine (k : ℕ) (l : List ℕ) : Type 0 where
  pub frame : framed l ≡ true
  pub check : checked (bytes_of l) ≡ true
  pub size : sized (bytes_of l) ≡ true
  pub is_kind : kind (bytes_of l) ≡ k

-- The header: the version, and this role count.
pub record HeaderLine (roles : ℕ) (l : List ℕ) : Type 0 where
  pub good : GoodLine HEADER l
  pub version : byte_at (bytes_of l) 1 ≡ VERSION
  pub role_count : byte_at (bytes_of l) 2 ≡ roles

-- Row i of a periodic table: the reader's row of the line has its bytes.
pub record PeriodicLine (table : List ℕ) (i : ℕ) (l : List ℕ) : Type 0 where
  pub good : GoodLine PERIODIC l
  pub row : (k : ℕ) → k < PERIODIC_BYTES → byte_at (periodic_row (bytes_of l)) k ≡ byte_at table (PERIODIC_BYTES * i + k)

-- Row i of a trigger table: the reader's row of the line has its used bytes, which are all but the places past its counts.
pub record TriggerLine (table : List ℕ) (i : ℕ) (l : List ℕ) : Type 0 where
  pub good : GoodLine TRIGGER l
  pub row : (k : ℕ) → k < TRIGGER_BYTES → UsedByte (trigger_at table i) k → byte_at (trigger_row (bytes_of l)) k ≡ byte_at table (TRIGGER_BYTES * i + k)

-- The end: the counts of the rows of both kinds.
pub record EndLine (periodics triggers : ℕ) (l : List ℕ) : Type 0 where
  pub good : GoodLine END l
  pub periodic_count : byte_at (bytes_of l) 1 ≡ periodics
  pub trigger_count : two (bytes_of l) 2 ≡ triggers
