-- A sheet in bytes that is refused with LOOP: document 01's third example, "enable 0 gives disable 0" with delay 0, through the reader.
-- Assumes nothing.
use Rattle.std.specs.Prelude.{◌≡◌, refl, Bool, true, false, Err}
use Rattle.std.proofs.lemmas.Bool.{false≢true}
use Rattle.std.proofs.Common.{arith}
use Rattle.answers.specs.Answers.{refusal}
use Rattle.theory.specs.Below.{any_below, all_below}
use Rattle.theory.specs.Events.{conf}
use Rattle.theory.specs.Sheet.{trigger_fits}
use Rattle.theory.specs.Graph.{counts, node, drawn, here, LoopAt}
use Rattle.answers.specs.declared.Name.TheVariants.{Loop}
use Rattle.line_readers.specs.Order.{in_order}
use Rattle.line_readers.specs.Column.{located}
use Rattle.tables.specs.Layout.{trigger_from, sheet_of}
use Rattle.text.specs.Lines.{lines}
use Rattle.text.specs.Framed.{is_digit, framed}
use Rattle.frames.specs.Frame.{value, checked}
use Rattle.trigger_frames.specs.Row.{placed, event_place, condition_place, last_place, trigger_row}
use Rattle.kinds.specs.Kinds.{size_of, may_stand}
use Rattle.row_counts.specs.Counts.{room_for, counts_agree}
use Rattle.fields.specs.Fields.{header_fits, frame_fits}
use Rattle.sheet_tests.specs.Judge.{line_tests, judge_line}
use Rattle.sheet_acts.specs.Acts.{Progress, seen_after, table_after, after}
use Rattle.reader.specs.Line.{line_step}
use Rattle.line_readers.specs.Walks.{Going, goes, refused, by_verdict, walks}
use Rattle.reader.specs.Lines.{at_end, reads}
use Rattle.reader.specs.Out.{read_outcome, sheet_read}
use Rattle.reader.specs.Reading.{start, sheet_lengths_fit, reading}
use Rattle.claims.specs.Words.{ReadsInOrder, no_periodics, no_triggers, looped}
use Rattle.claims.specs.Laws.Reader.{refuses_loop}

-- it goes on to its end
abbrev goes_on : Going Progress → Bool
goes_on (goes s) = true
goes_on (refused r) = false

-- to this
abbrev end : Going Progress → Progress
end (goes s) = s
end (refused r) = start

to_end : (x : Going Progress) → goes_on x ≡ true → x ≡ goes (end x)
to_end (goes s) h = refl
to_end (refused r) h = absurd (false≢true h)

abbrev found : Progress
found = end (reads (goes start) (lines looped))

in_order_lem : ReadsInOrder looped no_periodics no_triggers found
unfolding any_below all_below trigger_fits trigger_from is_digit value framed checked size_of may_stand placed event_place condition_place last_place trigger_row header_fits frame_fits room_for counts_agree
    in_order located line_tests judge_line seen_after table_after after by_verdict line_step at_end walks sheet_lengths_fit
in_order_lem = record { lengths = refl; to_its_end = to_end (reads (goes start) (lines looped)) refl }

has_loop : LoopAt (sheet_read found) 0
unfolding any_below all_below trigger_fits trigger_from sheet_of is_digit value framed checked size_of may_stand placed event_place condition_place last_place trigger_row header_fits frame_fits room_for counts_agree
    in_order located line_tests judge_line seen_after table_after after by_verdict line_step at_end walks conf counts node drawn
has_loop =
    record {
      from = 0;
      to = 0;
      is_pair = refl;
      from_event = omega arith;
      to_event = omega arith;
      cycle = record { negative = refl; back = here };
      is_first = λ a b x y c. omega arith;
    }

pub not_all_passed : reading looped no_periodics no_triggers ≡ read_outcome (Err (refusal Loop 0)) no_periodics no_triggers
not_all_passed = refuses_loop looped no_periodics no_triggers found in_order_lem 0 has_loop
