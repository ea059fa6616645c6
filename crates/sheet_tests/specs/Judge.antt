-- The tests of one line in their order, with what was read so far: FRAME, CHECK, KIND, TOO MANY, FIELD, COUNT. And the column of its refusal.
-- Assumes nothing.
use Rattle.std.specs.Prelude.{◌&&◌, List, ℕ}
use Rattle.answers.specs.declared.Name.TheVariants.{Count}
use Rattle.line_readers.specs.declared.Tests.{Tests}
use Rattle.line_readers.specs.Order.{in_order}
use Rattle.line_readers.specs.Column.{located}
use Rattle.text.specs.Framed.{framed}
use Rattle.frames.specs.Frame.{bytes_of, checked}
use Rattle.tables.specs.Layout.{byte_at, two}
use Rattle.kinds.specs.Kinds.{kind, sized, may_stand}
use Rattle.row_counts.specs.Counts.{room_for, counts_agree}
use Rattle.fields.specs.Fields.{frame_fits, bad_byte}
use Rattle.sheet_tests.specs.declared.Seen.{Seen}
use Rattle.answers.specs.Answers.{Verdict}

-- whether each test passes, of a line and of the frame that it holds
unfoldable pub line_tests : Seen → List ℕ → Tests
line_tests s l =
    let f : List ℕ = bytes_of l in
    record {
      framed = framed l;
      checked = checked f;
      kind = sized f && may_stand s.stage (kind f);
      room = room_for (kind f) s.counts.periodics s.counts.triggers;
      field = frame_fits (kind f) s.counts.roles f;
      last = counts_agree (kind f) (byte_at f 1) (two f 2) s.counts.periodics s.counts.triggers;
    }

-- the byte at which the first bad field of a line's frame begins
abbrev pub line_field : Seen → List ℕ → ℕ
line_field s l = bad_byte (kind (bytes_of l)) s.counts.roles (bytes_of l)

unfoldable pub judge_line : ℕ → Seen → List ℕ → Verdict
judge_line place s l = located l (line_field s l) (in_order (line_tests s l) Count place)
