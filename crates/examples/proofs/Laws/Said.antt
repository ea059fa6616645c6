-- THE ONE PROOF over the table: its test computes, and what passes says what is true.
-- Assumes nothing.
use Rattle.std.specs.Prelude.{◌≡◌, refl, true}
use Rattle.theory.specs.Below.{any_below, all_below, count_below}
use Rattle.theory.specs.Events.{conf, holds, blocks, blocked, nonblocked}
use Rattle.theory.specs.Sheet.{end_fits, periodic_fits, trigger_fits, until_end, row_due, due}
use Rattle.theory.specs.Instant.{request_fits, allows, met, ready, waits_for, roles_after}
use Rattle.theory.specs.Graph.{counts, node, drawn, edge}
use Rattle.theory.specs.Box.{givens, row_after}
use Rattle.theory.proofs.Laws.Exists.{fire, round}
use Rattle.line_readers.specs.Order.{in_order}
use Rattle.line_readers.specs.Column.{located}
use Rattle.tables.specs.Layout.{periodic_at, trigger_from, sheet_of}
use Rattle.text.specs.Framed.{is_digit, framed}
use Rattle.frames.specs.Frame.{value, checked}
use Rattle.prints.specs.Print.{digit_of, check_of}
use Rattle.periodic_frames.specs.Row.{periodic_row}
use Rattle.trigger_frames.specs.Row.{placed, event_place, condition_place, last_place, trigger_row}
use Rattle.kinds.specs.Kinds.{size_of, may_stand}
use Rattle.row_counts.specs.Counts.{room_for, counts_agree}
use Rattle.fields.specs.Fields.{header_fits, frame_fits}
use Rattle.sheet_tests.specs.Judge.{line_tests, judge_line}
use Rattle.sheet_acts.specs.Acts.{seen_after, table_after, after}
use Rattle.reader.specs.Line.{line_step}
use Rattle.line_readers.specs.Walks.{by_verdict, walks}
use Rattle.reader.specs.Lines.{at_end}
use Rattle.reader.specs.Reading.{sheet_lengths_fit}
use Rattle.day_split.specs.Split.{begins_end, up_to_end, byte_count, line_count}
use Rattle.tape_tests.specs.Tests.{tape_size, of_tape, room_for_request, in_time, ask_fits, tape_tests, judge_tape}
use Rattle.tape.specs.Tape.{many_with, heard_after, tape_step, tape_ends}
use Rattle.day_lines.specs.Lines.{weight_below, line_at, minute_line, minute_lines}
use Rattle.examples.specs.Written.{first, stream_of, roles_in, rows_in}
use Rattle.examples.specs.Example.{Said}
use Rattle.examples.specs.Table.{table}
use Rattle.examples.proofs.Laws.Passes.{good_order, leveled, loops_at, self_caused, read_found, asks_of, open_found, givens_held, roles_found, waits_found, minute_found, minutes_found, lines_found, passing}
use Rattle.examples.proofs.Laws.Sound.{all_sound}

-- the test computes
all_pass_lem : passing table ≡ true
unfolding any_below all_below count_below conf holds blocks blocked nonblocked end_fits periodic_fits trigger_fits until_end row_due due request_fits allows met ready waits_for roles_after
    counts node drawn edge givens row_after fire round periodic_at trigger_from sheet_of is_digit value framed checked digit_of check_of
    size_of may_stand periodic_row placed event_place condition_place last_place trigger_row header_fits frame_fits room_for counts_agree in_order located line_tests judge_line
    seen_after table_after after by_verdict line_step at_end walks sheet_lengths_fit
    begins_end up_to_end byte_count line_count tape_size of_tape room_for_request in_time ask_fits tape_tests judge_tape many_with heard_after tape_step tape_ends weight_below line_at minute_line minute_lines
    first stream_of roles_in rows_in good_order leveled loops_at self_caused read_found asks_of open_found givens_held roles_found waits_found minute_found minutes_found lines_found
all_pass_lem = refl

-- THE PROOF: every example of the table says what is true
pub all_say : Said table
all_say = all_sound table all_pass_lem
