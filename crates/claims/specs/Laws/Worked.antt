-- Mistyped sheets through the reader: each is refused at its line and in its column.
-- Assumes nothing.
use Rattle.std.specs.Prelude.{refl}
use Rattle.theory.specs.Below.{any_below, all_below}
use Rattle.theory.specs.Sheet.{end_fits, periodic_fits, trigger_fits}
use Rattle.line_readers.specs.Order.{in_order}
use Rattle.line_readers.specs.Column.{located}
use Rattle.line_readers.specs.Walks.{by_verdict, walks}
use Rattle.tables.specs.Layout.{periodic_at, trigger_from}
use Rattle.text.specs.Framed.{is_digit, framed}
use Rattle.frames.specs.Frame.{value, checked}
use Rattle.periodic_frames.specs.Row.{periodic_row}
use Rattle.trigger_frames.specs.Row.{placed, event_place, condition_place, last_place, trigger_row}
use Rattle.kinds.specs.Kinds.{size_of, may_stand}
use Rattle.row_counts.specs.Counts.{room_for, counts_agree}
use Rattle.fields.specs.Fields.{header_fits, frame_fits, bad_byte}
use Rattle.sheet_tests.specs.Judge.{line_tests, judge_line}
use Rattle.sheet_acts.specs.Acts.{seen_after, table_after, after}
use Rattle.reader.specs.Line.{line_step}
use Rattle.reader.specs.Lines.{at_end}
use Rattle.reader.specs.Reading.{by_lines, sheet_lengths_fit, reading}
use Rattle.claims.specs.Words.{EachRefused, mistyped}

pub mistyped_refused : EachRefused mistyped
unfolding any_below all_below end_fits periodic_fits trigger_fits periodic_at trigger_from is_digit value framed checked size_of may_stand periodic_row placed event_place condition_place last_place trigger_row
    header_fits frame_fits bad_byte room_for counts_agree in_order located line_tests judge_line seen_after table_after after by_verdict line_step at_end walks by_lines sheet_lengths_fit reading
mistyped_refused = (refl, (refl, (refl, (refl, (refl, (refl, (refl, (refl, tt))))))))
