-- EVERY PUBLIC FUNCTION IS EXACT: its contract leaves one possible answer and one possible content of every lent buffer, so any two outcomes that it allows are equal. In the order of
-- crates.txt, each function's name, its contract in the words of its `ensures` (x is what is lent as x, x' the same at the end), and its proof: `exact` where the contract is an
-- equation, else the theorem of its crate. The gate holds the list to the code, by `tools/listed`: every public function stands here, and the
-- theorem below its name is its contract, word for word. At the end are the hypotheses that some theorems have, the functions that ask something of their callers, and the exceptions.
-- Assumes nothing.
use Rattle.std.specs.Prelude.{◌≡◌, Bool, false, ◌&&◌, ◌||◌, List, ℕ, ◌+◌, ◌*◌, ◌≤◌, ◌<◌, eqb, drop, get_or, length, Result}
use Rattle.std.proofs.Common.{ap}
use Rattle.std.proofs.Math.Seq.{paste}
use Rattle.theory.specs.Below.{any_below, count_below, one, first_failing}
use Rattle.theory.specs.Events.{conf, nonblocked}
use Rattle.theory.specs.Graph.{Levels, counts, node}
use Rattle.theory.specs.Instant.{allows, met}
use Rattle.theory.specs.LoopTest.{through}
use Rattle.theory.specs.Numbers.{EVENTS, ROLES}
use Rattle.theory.specs.Sheet.{GoodOrder, of_roles, periodic_tests, periodic_fits, trigger_tests, trigger_fits}
use Rattle.theory.proofs.Laws.Exact.{exact}
use Rattle.answers.specs.declared.Name.{Name}
use Rattle.answers.specs.declared.Refusal.{Refusal}
use Rattle.line_readers.specs.declared.Tests.{Tests}
use Rattle.answers.specs.Answers.{and_then, answered, in_column, number_of, refusal, refuse, Verdict}
use Rattle.line_readers.specs.Column.{in_line}
use Rattle.line_readers.specs.Order.{in_order}
use Rattle.faulty_line.specs.Part.{faulty_part, shown}
use Rattle.tables.specs.Asked.{flat, request_at}
use Rattle.tables.specs.Buffers.{bit, events_of, roles_of}
use Rattle.tables.specs.declared.Counts.{Counts}
use Rattle.tables.specs.declared.Rules.{Rules}
use Rattle.tables.specs.Layout.{TRIGGER_BYTES, byte_at, four, periodic_at, sheet_of, trigger_at, triggers_of, two}
use Rattle.tables.specs.Lent.{rules_of, sheet_in, Lent, lent}
use Rattle.periodics.specs.declared.PeriodicRow.{PeriodicRow}
use Rattle.periodics.specs.Rows.{periodic_of}
use Rattle.masks.specs.Joins.{joined_where, joins}
use Rattle.due.specs.Due.{due_at}
use Rattle.solver.specs.Solved.{Solved}
use Rattle.waiting.specs.Waiting.{cleared, copied, place_of}
use Rattle.delays.specs.Delays.{trigger_entry}
use Rattle.roles_after.specs.After.{roles_below}
use Rattle.reach_row.specs.Row.{Row, RowIs, reaches, whole}
use Rattle.reach_rows.specs.Rows.{Become, RowsAre, edges_of, linked, whole_rows}
use Rattle.edges.specs.Drawing.{added_from, draws_below, tail_of}
use Rattle.loops.specs.Tested.{tested}
use Rattle.row_judge.specs.Judge.{judge_rows}
use Rattle.table_judge.specs.Judged.{judged, loop_judged}
use Rattle.text.specs.Framed.{framed, frame_column}
use Rattle.text.specs.Lines.{lines, first_ended, span}
use Rattle.frames.specs.Frame.{bytes_of, checked}
use Rattle.prints.specs.Print.{line_of}
use Rattle.printed_frames.specs.Frames.{minute_frame, refusal_line}
use Rattle.periodic_frames.specs.Row.{periodic_row}
use Rattle.trigger_frames.specs.Row.{trigger_row}
use Rattle.kinds.specs.declared.Stage.{Stage}
use Rattle.kinds.specs.Kinds.{may_stand, sized}
use Rattle.row_counts.specs.Counts.{counts_agree, room_for}
use Rattle.fields.specs.Fields.{frame_fits, bad_byte}
use Rattle.sheet_tests.specs.declared.Seen.{Seen}
use Rattle.sheet_tests.specs.Judge.{judge_line}
use Rattle.sheet_acts.specs.Acts.{after, progress}
use Rattle.reader.specs.Answer.{verdict_of}
use Rattle.reader.specs.Out.{read_outcome}
use Rattle.reader.specs.Reading.{reading}
use Rattle.writer.specs.Outcome.{WriteOutcome}
use Rattle.requests.specs.declared.Request.{Request}
use Rattle.requests.specs.Asked.{request_of}
use Rattle.requests.specs.Requests.{fits, judge_requests}
use Rattle.requests.specs.Flat.{put_at}
use Rattle.asked.specs.Adds.{given_entry, wait_entry}
use Rattle.step_tests.specs.Order.{exact_lengths, judge_first}
use Rattle.instant.specs.Acted.{Acted}
use Rattle.step.specs.Outcome.{Outcome}
use Rattle.entry.specs.Listed.{listed}
use Rattle.tape_tests.specs.declared.Heard.{Heard}
use Rattle.tape_frames.specs.declared.Kind.{Kind}
use Rattle.tape_frames.specs.Frame.{asked_in, instant_of, kind_in}
use Rattle.tape_tests.specs.Tests.{judge_tape}
use Rattle.tape.specs.Took.{took}
use Rattle.tape.specs.Tape.{tape_read}
use Rattle.day_split.specs.Parted.{parted}
use Rattle.tape_batches.specs.Batch.{none_yet, rest, takes}
use Rattle.day_input.specs.Planned.{opened, planned}
use Rattle.resend.specs.Resend.{ResendOutcome}
use Rattle.day_minute.specs.Minute.{MinuteOutcome}
use Rattle.day_print.specs.Day.{DayOutcome}
use Rattle.periodics.specs.Laws.Exact as periodics
use Rattle.solver.specs.Laws.Exact as solver
use Rattle.reach_row.specs.Laws.Exact as reach-row
use Rattle.reach_rows.specs.Laws.Exact as reach-rows
use Rattle.reach.specs.Laws.Exact as reach
use Rattle.edges.specs.Laws.Exact as edges
use Rattle.sheet_acts.specs.Laws.Exact as sheet-acts
use Rattle.reader.proofs.Laws.Exact as reader
use Rattle.writer.proofs.Laws.Exact as writer
use Rattle.requests.specs.Laws.Exact as requests
use Rattle.instant.specs.Laws.Exact as act
use Rattle.step.proofs.Laws.Exact as Step
use Rattle.entry.proofs.Laws.Exact as entry
use Rattle.tape_frames.specs.Laws.Exact as tape-frames
use Rattle.tape.specs.Laws.Exact as tape
use Rattle.day_input.proofs.Laws.Exact as day-input
use Rattle.resend.specs.Laws as resend
use Rattle.day_minute.specs.Laws.Exact as day-minute
use Rattle.day_print.specs.Laws.Exact as day-print

-- any two answers that the contract C allows are equal
abbrev pub Exact : {A : Type 0} → (A → Type 0) → Type 0
Exact {A} C = (a a' : A) → C a → C a' → a ≡ a'

-- the same of an answer and what is lent, or of several things that are lent
abbrev pub Exact₂ : {A B : Type 0} → (A → B → Type 0) → Type 0
Exact₂ {A} {B} C = (a a' : A) (b b' : B) → C a b → C a' b' → (a ≡ a') × (b ≡ b')

abbrev pub Exact₃ : {A B D : Type 0} → (A → B → D → Type 0) → Type 0
Exact₃ {A} {B} {D} C = (a a' : A) (b b' : B) (d d' : D) → C a b d → C a' b' d' → (a ≡ a') × (b ≡ b') × (d ≡ d')

abbrev pub Exact₄ : {A B D E : Type 0} → (A → B → D → E → Type 0) → Type 0
Exact₄ {A} {B} {D} {E} C = (a a' : A) (b b' : B) (d d' : D) (e e' : E) → C a b d e → C a' b' d' e' → (a ≡ a') × (b ≡ b') × (d ≡ d') × (e ≡ e')

abbrev pub Exact₅ : {A B D E F : Type 0} → (A → B → D → E → F → Type 0) → Type 0
Exact₅ {A} {B} {D} {E} {F} C = (a a' : A) (b b' : B) (d d' : D) (e e' : E) (f f' : F) → C a b d e f → C a' b' d' e' f' → (a ≡ a') × (b ≡ b') × (d ≡ d') × (e ≡ e') × (f ≡ f')

-- what is lent to a step, part by part
parts' : (C : Lent → Type 0) → Exact C → Exact₄ (λ (t roles : ℕ) (w v : List ℕ). C (lent t roles w v))
parts' C x t t' roles roles' w w' v v' h h' =
    let e = x (lent t roles w v) (lent t' roles' w' v') h h' in
    (ap (λ (l : Lent). l.instant) e, ap (λ (l : Lent). l.roles) e, ap (λ (l : Lent). l.waiting) e, ap (λ (l : Lent). l.events) e)

-- and after an answer
parts : {A : Type 0} (C : A → Lent → Type 0) → Exact₂ C → Exact₅ (λ (r : A) (t roles : ℕ) (w v : List ℕ). C r (lent t roles w v))
parts C x r r' t t' roles roles' w w' v v' h h' =
    let e = x r r' (lent t roles w v) (lent t' roles' w' v') h h' in
    (e.0, ap (λ (l : Lent). l.instant) e.1, ap (λ (l : Lent). l.roles) e.1, ap (λ (l : Lent). l.waiting) e.1, ap (λ (l : Lent). l.events) e.1)

-- ---- answers

-- answers::refusal_of
pub answers_refusal_of : (name : Name) (place : ℕ) → Exact (λ r. r ≡ refusal name place)
answers_refusal_of name place r r' = exact

-- answers::in_column
pub answers_in_column : (r : Refusal) (column : ℕ) → Exact (λ x. x ≡ in_column column r)
answers_in_column r column x x' = exact

-- answers::refuse
pub answers_refuse : (name : Name) (place : ℕ) → Exact (λ r. r ≡ refuse name place)
answers_refuse name place r r' = exact

-- answers::and_then
pub answers_and_then : (first later : Verdict) → Exact (λ r. r ≡ and_then first later)
answers_and_then first later r r' = exact

-- answers::number_of
pub answers_number_of : (name : Name) → Exact (λ r. r ≡ number_of name)
answers_number_of name r r' = exact

-- answers::answer_of
pub answers_answer_of : (verdict : Verdict) → Exact (λ r. r ≡ answered verdict)
answers_answer_of verdict r r' = exact

-- ---- widths

-- widths::wide
pub widths_wide : (x : ℕ) → Exact (λ r. r ≡ x)
widths_wide x r r' = exact

-- widths::pair
pub widths_pair : (high low : ℕ) → Exact (λ r. (r ≡ 256 * high + low) × (r < 65536))
widths_pair high low r r' h h' = exact h.0 h'.0

-- widths::index
pub widths_index : (x : ℕ) → Exact (λ r. r ≡ x)
widths_index x r r' = exact

-- widths::row_index
pub widths_row_index : (row : ℕ) → Exact (λ r. r ≡ row)
widths_row_index row r r' = exact

-- widths::long
pub widths_long : (x : ℕ) → Exact (λ r. r ≡ x)
widths_long x r r' = exact

-- widths::one
pub widths_one : (t : Bool) → Exact (λ r. (r ≡ one t) × (r < 2))
widths_one t r r' h h' = exact h.0 h'.0

-- ---- conflicts

-- conflicts::conflict
pub conflicts_conflict : (e : ℕ) → Exact (λ r. r ≡ conf e)
conflicts_conflict e r r' = exact

-- ---- tables

-- tables::at_or
pub tables_at_or : {T : Type 0} (items : List T) (i : ℕ) (past : T) → Exact (λ r. r ≡ get_or items i past)
tables_at_or items i past r r' = exact

-- tables::byte
pub tables_byte : (table : List ℕ) (i : ℕ) → Exact (λ r. r ≡ byte_at table i)
tables_byte table i r r' = exact

-- tables::trigger_byte
pub tables_trigger_byte : (table : List ℕ) (i k : ℕ) → Exact (λ r. r ≡ byte_at table (TRIGGER_BYTES * i + k))
tables_trigger_byte table i k r r' = exact

-- tables::copy_in
pub tables_copy_in : (table : List ℕ) (at : ℕ) (row : List ℕ) → Exact (λ table'. table' ≡ paste table at row (length row))
tables_copy_in table at row l l' = exact

-- ---- periodics

-- periodics::periodic_row
pub periodics_periodic_row : (table : List ℕ) (i : ℕ) → Exact (λ r. periodic_of r ≡ periodic_at table i)
periodics_periodic_row = periodics.periodic_row_exact

-- ---- triggers

-- triggers::event
pub triggers_event : (triggers : List ℕ) (i j : ℕ) → Exact (λ r. r ≡ (trigger_at triggers i).event j)
triggers_event triggers i j r r' = exact

-- triggers::condition
pub triggers_condition : (triggers : List ℕ) (i j : ℕ) → Exact (λ r. r ≡ (trigger_at triggers i).condition j)
triggers_condition triggers i j r r' = exact

-- triggers::counts_at
pub triggers_counts_at : (triggers : List ℕ) (i : ℕ) → Exact (λ r. ((n : ℕ) → r ≡ counts (triggers_of n triggers) i))
triggers_counts_at triggers i r r' h h' = exact (h 0) (h' 0)

-- ---- periodic_limits

-- periodic_limits::of_roles
pub periodic_limits_of_roles : (roles e : ℕ) → Exact (λ r. r ≡ of_roles roles e)
periodic_limits_of_roles roles e r r' = exact

-- periodic_limits::first_bad_periodic
pub periodic_limits_first_bad_periodic : (w : PeriodicRow) (roles : ℕ) → Exact (λ r. r ≡ first_failing (periodic_tests roles (periodic_of w)))
periodic_limits_first_bad_periodic w roles r r' = exact

-- periodic_limits::periodic_fits
pub periodic_limits_periodic_fits : (w : PeriodicRow) (roles : ℕ) → Exact (λ r. r ≡ periodic_fits roles (periodic_of w))
periodic_limits_periodic_fits w roles r r' = exact

-- ---- trigger_limits

-- trigger_limits::first_bad_trigger
pub trigger_limits_first_bad_trigger : (table : List ℕ) (i roles : ℕ) → Exact (λ r. r ≡ first_failing (trigger_tests roles (trigger_at table i)))
trigger_limits_first_bad_trigger table i roles r r' = exact

-- trigger_limits::trigger_fits
pub trigger_limits_trigger_fits : (table : List ℕ) (i roles : ℕ) → Exact (λ r. r ≡ trigger_fits roles (trigger_at table i))
trigger_limits_trigger_fits table i roles r r' = exact

-- ---- reach_row

-- reach_row::none
pub reach_row_none : Exact (λ r. RowIs (λ _. false) r)
reach_row_none = reach-row.none_exact

-- reach_row::reaches
pub reach_row_reaches : (row : Row) (b : ℕ) → Exact (λ r. r ≡ reaches row b)
reach_row_reaches row b r r' = exact

-- reach_row::with
pub reach_row_with : (row : Row) (b : ℕ) (on : Bool) → whole row → Exact (λ row'. ((f : ℕ → Bool) → RowIs f row → RowIs (λ x. f x || (on && eqb b x)) row'))
reach_row_with row b on h r r' = reach-row.with_exact row b on r r' h

-- reach_row::joined
pub reach_row_joined : (x y : Row) → whole x → whole y → Exact (λ r. ((f g : ℕ → Bool) → RowIs f x → RowIs g y → RowIs (λ b. f b || g b) r))
reach_row_joined x y h k r r' = reach-row.joined_exact x y r r' h k

-- reach_row::some
pub reach_row_some : (row : Row) → Exact (λ r. r ≡ any_below EVENTS (reaches row))
reach_row_some row r r' = exact

-- ---- reach_rows

-- reach_rows::none
pub reach_rows_none : Exact (λ r. RowsAre (λ _ _. false) r)
reach_rows_none = reach-rows.none_exact

-- reach_rows::leads
pub reach_rows_leads : (rows : List Row) (a b : ℕ) → Exact (λ r. r ≡ edges_of rows a b)
reach_rows_leads rows a b r r' = exact

-- reach_rows::link
pub reach_rows_link : (rows : List Row) (a b : ℕ) (on : Bool) → whole_rows rows → Exact (λ rows'. Become (linked on a b) rows rows')
reach_rows_link rows a b on h r r' = reach-rows.link_exact rows a b on r r' h

-- ---- reach

-- reach::closed
pub reach_closed : (edges : List Row) → whole_rows edges → Exact (λ r. Become (λ E. through E EVENTS) edges r)
reach_closed edges h r r' = reach.closed_exact edges r r' h

-- ---- edges

-- edges::nodes
pub edges_nodes : (triggers : List ℕ) (n : ℕ) → Exact (λ r. RowIs (node (triggers_of n triggers)) r)
edges_nodes triggers n = edges.nodes_exact (triggers_of n triggers)

-- edges::draw
pub edges_draw : (rows : List Row) (triggers : List ℕ) (n : ℕ) (heads : Row) (negative : Bool) → whole_rows rows → Exact (λ rows'. Become (added_from heads (draws_below (tail_of negative) (triggers_of n triggers) n)) rows rows')
edges_draw rows triggers n heads negative h r r' = edges.draw_exact (triggers_of n triggers) n heads negative rows r r' h

-- ---- loops

-- loops::loop_test
pub loops_loop_test : (triggers : List ℕ) (n : ℕ) → Exact (λ r. r ≡ tested (triggers_of n triggers))
loops_loop_test triggers n r r' = exact

-- ---- row_judge

-- row_judge::rows_judged
pub row_judge_rows_judged : (given : Rules) → Exact (λ r. r ≡ judge_rows (sheet_in (rules_of given)))
row_judge_rows_judged given r r' = exact

-- ---- table_judge

-- table_judge::loop_judged
pub table_judge_loop_judged : (triggers : List ℕ) (n : ℕ) → Exact (λ r. r ≡ loop_judged (triggers_of n triggers))
table_judge_loop_judged triggers n r r' = exact

-- table_judge::judge
pub table_judge_judge : (given : Rules) → Exact (λ r. r ≡ judged (sheet_in (rules_of given)))
table_judge_judge given r r' = exact

-- ---- text

-- text::line_end
pub text_line_end : (text : List ℕ) (at : ℕ) → Exact (λ r. r ≡ at + span (drop at text))
text_line_end text at r r' = exact

-- text::line_at
pub text_line_at : (text : List ℕ) (at : ℕ) → Exact (λ r. r ≡ first_ended (lines (drop at text)))
text_line_at text at r r' = exact

-- text::is_framed
pub text_is_framed : (line : List ℕ) → Exact (λ r. r ≡ framed line)
text_is_framed line r r' = exact

-- text::frame_column
pub text_frame_column : (line : List ℕ) → Exact (λ r. r ≡ frame_column line)
text_frame_column line r r' = exact

-- ---- frames

-- frames::byte_at
pub frames_byte_at : (line : List ℕ) (i : ℕ) → Exact (λ r. r ≡ get_or (bytes_of line) i 0)
frames_byte_at line i r r' = exact

-- frames::count
pub frames_count : (line : List ℕ) → Exact (λ r. r ≡ length (bytes_of line))
frames_count line r r' = exact

-- frames::two_at
pub frames_two_at : (line : List ℕ) (i : ℕ) → Exact (λ r. r ≡ two (bytes_of line) i)
frames_two_at line i r r' = exact

-- frames::four_at
pub frames_four_at : (line : List ℕ) (i : ℕ) → Exact (λ r. r ≡ four (bytes_of line) i)
frames_four_at line i r r' = exact

-- frames::is_checked
pub frames_is_checked : (line : List ℕ) → Exact (λ r. r ≡ checked (bytes_of line))
frames_is_checked line r r' = exact

-- ---- line_readers

-- line_readers::in_order
pub line_readers_in_order : (tests : Tests) (name : Name) (place : ℕ) → Exact (λ r. r ≡ in_order tests name place)
line_readers_in_order tests name place r r' = exact

-- line_readers::in_line
pub line_readers_in_line : (r : Refusal) (line : List ℕ) (field : ℕ) → Exact (λ x. x ≡ in_line line field r)
line_readers_in_line r line field x x' = exact

-- ---- faulty_line

-- faulty_line::faulty_part
pub faulty_line_faulty_part : (sheet tape : List ℕ) (r : Refusal) → Exact (λ p. p ≡ faulty_part sheet tape r)
faulty_line_faulty_part sheet tape r p p' = exact

-- faulty_line::faulty_line
pub faulty_line_faulty_line : (sheet tape : List ℕ) (r : Refusal) → Exact (λ l. l ≡ shown (faulty_part sheet tape r) sheet tape)
faulty_line_faulty_line sheet tape r l l' = exact

-- ---- prints

-- prints::put_line
pub prints_put_line : (out : List ℕ) (at : ℕ) (frame : List ℕ) → Exact (λ out'. out' ≡ paste out at (line_of frame) (length (line_of frame)))
prints_put_line out at frame l l' = exact

-- ---- printed_frames

-- printed_frames::minute_frame
pub printed_frames_minute_frame : (instant roles count : ℕ) → Exact (λ r. r ≡ minute_frame instant roles count)
printed_frames_minute_frame instant roles count r r' = exact

-- printed_frames::refusal_line
pub printed_frames_refusal_line : (r : Refusal) → Exact (λ line. line ≡ refusal_line r)
printed_frames_refusal_line r line line' = exact

-- ---- periodic_frames

-- periodic_frames::periodic_row
pub periodic_frames_periodic_row : (line : List ℕ) → Exact (λ r. r ≡ periodic_row (bytes_of line))
periodic_frames_periodic_row line r r' = exact

-- ---- trigger_frames

-- trigger_frames::trigger_row
pub trigger_frames_trigger_row : (line : List ℕ) → Exact (λ r. r ≡ trigger_row (bytes_of line))
trigger_frames_trigger_row line r r' = exact

-- ---- kinds

-- kinds::is_kind
pub kinds_is_kind : (line : List ℕ) (stage : Stage) (k : ℕ) → Exact (λ r. r ≡ (sized (bytes_of line) && may_stand stage k))
kinds_is_kind line stage k r r' = exact

-- ---- row_counts

-- row_counts::has_room
pub row_counts_has_room : (k periodics triggers : ℕ) → Exact (λ r. r ≡ room_for k periodics triggers)
row_counts_has_room k periodics triggers r r' = exact

-- row_counts::end_agrees
pub row_counts_end_agrees : (line : List ℕ) (k periodics triggers : ℕ) → Exact (λ r. r ≡ counts_agree k (byte_at (bytes_of line) 1) (two (bytes_of line) 2) periodics triggers)
row_counts_end_agrees line k periodics triggers r r' = exact

-- ---- fields

-- fields::frame_fits
pub fields_frame_fits : (k roles : ℕ) (line : List ℕ) → Exact (λ r. r ≡ frame_fits k roles (bytes_of line))
fields_frame_fits k roles line r r' = exact

-- fields::bad_byte
pub fields_bad_byte : (k roles : ℕ) (line : List ℕ) → Exact (λ r. r ≡ bad_byte k roles (bytes_of line))
fields_bad_byte k roles line r r' = exact

-- ---- sheet_tests

-- sheet_tests::line_judged
pub sheet_tests_line_judged : (line : List ℕ) (s : Seen) (place : ℕ) → Exact (λ r. r ≡ judge_line place s line)
sheet_tests_line_judged line s place r r' = exact

-- ---- sheet_acts

-- sheet_acts::act
pub sheet_acts_act : (line : List ℕ) (s : Seen) (periodics triggers : List ℕ)
    → Exact₃ (λ r periodics' triggers'. progress r periodics' triggers' ≡ after (progress s periodics triggers) (bytes_of line))
sheet_acts_act = sheet-acts.act_exact

-- ---- reader

-- reader::verdict_of
pub reader_verdict_of : (reading : Result Counts Refusal) → Exact (λ r. r ≡ verdict_of reading)
reader_verdict_of reading r r' = exact

-- reader::read_sheet
pub reader_read_sheet : (sheet periodics triggers : List ℕ) → Exact₃ (λ r periodics' triggers'. read_outcome r periodics' triggers' ≡ reading sheet periodics triggers)
reader_read_sheet = reader.read_sheet_exact

-- ---- writer

-- writer::write_sheet
pub writer_write_sheet : (given : Rules) (out : List ℕ) → Exact₂ (λ r out'. WriteOutcome (rules_of given) out r out')
writer_write_sheet given out = writer.write_exact (rules_of given) out

-- ---- masks

-- masks::number
pub masks_number : (buffer : List ℕ) (i : ℕ) → Exact (λ r. r ≡ get_or buffer i 0)
masks_number buffer i r r' = exact

-- masks::join_where
pub masks_join_where : (buffer : List ℕ) (on : Bool) (at p : ℕ) → Exact (λ buffer'. buffer' ≡ joined_where buffer (record { on = on; at = at; priority = p }))
masks_join_where buffer on at p l l' = exact

-- ---- nonblocked

-- nonblocked::live
pub nonblocked_live : (events : List ℕ) (e : ℕ) → Exact (λ r. r ≡ nonblocked (events_of events) (events_of events) e)
nonblocked_live events e r r' = exact

-- ---- roles

-- roles::role_on
pub roles_role_on : (roles r : ℕ) → Exact (λ on. on ≡ bit roles r)
roles_role_on roles r on on' = exact

-- ---- bodies

-- bodies::allows
pub bodies_allows : (triggers : List ℕ) (i roles : ℕ) → Exact (λ r. r ≡ allows (roles_of roles) (trigger_at triggers i))
bodies_allows triggers i roles r r' = exact

-- bodies::met
pub bodies_met : (events triggers : List ℕ) (i : ℕ) → Exact (λ r. r ≡ met (events_of events) (events_of events) (trigger_at triggers i))
bodies_met events triggers i r r' = exact

-- ---- due

-- due::add_due
pub due_add_due : (events periodics : List ℕ) (n t : ℕ) → Exact (λ events'. events' ≡ joins events n (due_at periodics t))
due_add_due events periodics n t l l' = exact

-- ---- solver

-- solver::solve
pub solver_solve : (events levels triggers : List ℕ) (n roles : ℕ) → (role_count periodic_count : ℕ) (periodics : List ℕ) → length events ≡ EVENTS → GoodOrder (sheet_of role_count periodic_count n periodics triggers) → Levels (sheet_of role_count periodic_count n periodics triggers) (byte_at levels)
    → Exact (λ events'. Solved levels triggers n roles events events')
solver_solve events levels triggers n roles role_count periodic_count periodics size good rule events' other = solver.solve_exact levels triggers n roles events events' other role_count periodic_count periodics size good rule

-- ---- waiting

-- waiting::place
pub waiting_place : (t d e : ℕ) → Exact (λ r. r ≡ place_of (t + d) e)
waiting_place t d e r r' = exact

-- waiting::copy_row
pub waiting_copy_row : (events waiting : List ℕ) (t : ℕ) → Exact (λ events'. events' ≡ copied events waiting t)
waiting_copy_row events waiting t l l' = exact

-- waiting::clear_row
pub waiting_clear_row : (waiting : List ℕ) (t : ℕ) → Exact (λ waiting'. waiting' ≡ cleared waiting t)
waiting_clear_row waiting t l l' = exact

-- ---- delays

-- delays::wait_triggers
pub delays_wait_triggers : (waiting events triggers : List ℕ) (n roles t : ℕ)
    → Exact (λ waiting'. waiting' ≡ joins waiting n (λ i. trigger_entry (roles_of roles) (events_of events) t (trigger_at triggers i)))
delays_wait_triggers waiting events triggers n roles t l l' = exact

-- ---- roles_after

-- roles_after::roles_after
pub roles_after_roles_after : (roles : ℕ) (events : List ℕ) → Exact (λ r. r ≡ roles_below (roles_of roles) (events_of events) ROLES)
roles_after_roles_after roles events r r' = exact

-- roles_after::count
pub roles_after_count : (events : List ℕ) → Exact (λ r. r ≡ count_below EVENTS (nonblocked (events_of events) (events_of events)))
roles_after_count events r r' = exact

-- ---- requests

-- requests::request_at
pub requests_request_at : (asked : List ℕ) (k : ℕ) → Exact (λ r. request_of r ≡ request_at asked k)
requests_request_at = requests.request_at_exact

-- requests::put
pub requests_put : (numbers : List ℕ) (i : ℕ) (r : Request) → Exact (λ numbers'. numbers' ≡ put_at numbers i (request_of r))
requests_put numbers i r l l' = exact

-- requests::request_fits
pub requests_request_fits : (roles : ℕ) (r : Request) → Exact (λ t. t ≡ fits roles (request_of r))
requests_request_fits roles r t t' = exact

-- requests::judge_requests
pub requests_judge_requests : (roles : ℕ) (asked : List ℕ) (n : ℕ) → Exact (λ r. r ≡ judge_requests roles (flat asked n))
requests_judge_requests roles asked n r r' = exact

-- ---- asked

-- asked::add_asked
pub asked_add_asked : (events asked : List ℕ) (n : ℕ) → Exact (λ events'. events' ≡ joins events n (λ k. given_entry (request_at asked k)))
asked_add_asked events asked n l l' = exact

-- asked::wait_asked
pub asked_wait_asked : (waiting asked : List ℕ) (n t : ℕ) → Exact (λ waiting'. waiting' ≡ joins waiting n (λ k. wait_entry t (request_at asked k)))
asked_wait_asked waiting asked n t l l' = exact

-- ---- instant

-- instant::act
pub instant_act : (given : Rules) (asked : List ℕ) (m : ℕ) (levels : List ℕ) (instant enabled : ℕ) (waiting events : List ℕ) → (role_count : ℕ) → length events ≡ EVENTS → GoodOrder (sheet_of role_count given.counts.periodics given.counts.triggers given.periodics.now given.triggers.now) → Levels (sheet_of role_count given.counts.periodics given.counts.triggers given.periodics.now given.triggers.now) (byte_at levels)
    → Exact₄ (λ instant' enabled' waiting' events'. Acted (rules_of given) (flat asked m) levels (lent instant enabled waiting events) (lent instant' enabled' waiting' events'))
instant_act given asked m levels instant enabled waiting events role_count size good rule =
    parts' _ (λ a a'. act.act_exact (rules_of given) (flat asked m) levels (lent instant enabled waiting events) a a' role_count size good rule)

-- ---- step_tests

-- step_tests::judge_first
pub step_tests_judge_first : (periodics triggers waiting events t n : ℕ) → Exact (λ r. r ≡ judge_first (exact_lengths periodics triggers waiting events) t n)
step_tests_judge_first periodics triggers waiting events t n r r' = exact

-- ---- step

-- step::step
pub step_step : (given : Rules) (asked : List ℕ) (n instant enabled : ℕ) (waiting events : List ℕ)
    → Exact₅ (λ r instant' enabled' waiting' events'. Outcome (rules_of given) (flat asked n) (lent instant enabled waiting events) r (lent instant' enabled' waiting' events'))
step_step given asked n instant enabled waiting events = parts _ (Step.step_exact (rules_of given) (flat asked n) (lent instant enabled waiting events))

-- ---- entry

-- entry::step_requests
pub entry_step_requests : (given : Rules) (requests : List Request) (instant enabled : ℕ) (waiting events : List ℕ)
    → Exact₅ (λ r instant' enabled' waiting' events'. Outcome (rules_of given) (listed requests) (lent instant enabled waiting events) r (lent instant' enabled' waiting' events'))
entry_step_requests given requests instant enabled waiting events = parts _ (entry.step_requests_exact (rules_of given) requests (lent instant enabled waiting events))

-- ---- tape_frames

-- tape_frames::kind_of
pub tape_frames_kind_of : (line : List ℕ) → Exact (λ r. r ≡ kind_in (bytes_of line))
tape_frames_kind_of line r r' = exact

-- tape_frames::instant_of
pub tape_frames_instant_of : (line : List ℕ) → Exact (λ r. r ≡ instant_of (bytes_of line))
tape_frames_instant_of line r r' = exact

-- tape_frames::asked_in
pub tape_frames_asked_in : (line : List ℕ) → Exact (λ r. request_of r ≡ asked_in (bytes_of line))
tape_frames_asked_in = tape-frames.asked_in_exact

-- ---- tape_tests

-- tape_tests::tape_judged
pub tape_tests_tape_judged : (line : List ℕ) (roles : ℕ) (s : Heard) (place : ℕ) → Exact (λ r. r ≡ judge_tape place roles s line)
tape_tests_tape_judged line roles s place r r' = exact

-- ---- tape

-- tape::read_tape
pub tape_read_tape : (tape : List ℕ) (roles before : ℕ) → Exact (λ r. took r ≡ tape_read roles before tape)
tape_read_tape = tape.read_tape_exact

-- ---- tape_batches

-- tape_batches::take_batch
pub tape_batches_take_batch : (tape : List ℕ) (at t : ℕ)
    → Exact (λ r. (r ≡ takes t (lines (drop at tape)) (none_yet at)) × (lines (drop r.next tape) ≡ rest t (lines (drop at tape)) 0))
tape_batches_take_batch tape at t r r' h h' = exact h.0 h'.0

-- ---- day_split

-- day_split::split
pub day_split_split : (input : List ℕ) → Exact (λ r. (r ≡ parted 0 0 (lines input)) × ((r.bytes ≤ length input) × (r.lines ≤ length input)))
day_split_split input r r' h h' = exact h.0 h'.0

-- ---- day_input

-- day_input::open
pub day_input_open : (input : List ℕ) → Exact₃ (λ r periodics' triggers'. opened r periodics' triggers' ≡ planned input)
day_input_open = day-input.open_exact

-- ---- resend

-- resend::resend
pub resend_resend : (input out : List ℕ) → Exact₂ (λ r out'. ResendOutcome input out r out')
resend_resend = resend.resend_exact

-- ---- day_minute

-- day_minute::day_minute
pub day_minute_day_minute : (given : Rules) (tape : List ℕ) (at instant enabled : ℕ) (waiting events : List ℕ)
    → Exact₅ (λ r instant' enabled' waiting' events'. MinuteOutcome (rules_of given) tape at (lent instant enabled waiting events) r (lent instant' enabled' waiting' events'))
day_minute_day_minute given tape at instant enabled waiting events = parts _ (day-minute.day_minute_exact (rules_of given) tape at (lent instant enabled waiting events))

-- ---- day_print

-- day_print::day
pub day_print_day : (input out : List ℕ) → Exact₂ (λ r out'. DayOutcome input out r out')
day_print_day = day-print.day_exact

-- ==== HYPOTHESES: what a theorem above asks besides its contract, or concludes where that is not `Exact`, and why. Its other binders are plain data. The gate lets no other stand, and none that is gone.
-- solver::solve asks `length events ≡ EVENTS`: of a buffer of another length the solver promises only that it keeps its length. See EXCEPTIONS.
-- solver::solve asks `GoodOrder (sheet_of role_count periodic_count n periodics triggers)`: of rows out of order likewise.
-- solver::solve asks `Levels (sheet_of role_count periodic_count n periodics triggers) (byte_at levels)`: of levels that do not meet the rule likewise.
-- reach_row::with asks `whole row`: the type of the code says it. A `Row` is an array of 128 truth values, and to a statement a list.
-- reach_row::joined asks `whole x`: the type of the code says it.
-- reach_row::joined asks `whole y`: the type of the code says it.
-- reach_rows::link asks `whole_rows rows`: the type of the code says it. `Rows` are an array of 128 such rows.
-- reach::closed asks `whole_rows edges`: the type of the code says it.
-- edges::draw asks `whole_rows rows`: the type of the code says it.
-- instant::act asks `length events ≡ EVENTS`: it hands out what the solver makes, which promises a solution there alone.
-- instant::act asks `GoodOrder (sheet_of role_count given.counts.periodics given.counts.triggers given.periodics.now given.triggers.now)`: likewise.
-- instant::act asks `Levels (sheet_of role_count given.counts.periodics given.counts.triggers given.periodics.now given.triggers.now) (byte_at levels)`: likewise.

-- ==== WHAT SOME ASK. These are public only because a crate ends there: each asks something of its callers, the functions named, which have shown it. Each is exact as it stands above,
-- whatever it is called with. Whoever uses the box calls reader::read_sheet, writer::write_sheet, step::step, entry::step_requests, resend::resend,
-- faulty_line::faulty_line, faulty_line::faulty_part or day_print::day, which ask nothing.
-- tables::copy_in asks that the row fits: sheet_acts::put_periodic, sheet_acts::put_trigger.
-- prints::put_line asks that the line fits: printed_frames::refusal_line, writer::put, day_print::run.
-- keys::chains asks for at most 256 triggers: solver::by_keys.
-- keys::next asks for a key below 257: solver::by_keys.
-- turns::settle asks for an events buffer of 128 numbers, a key that is not 0, and chained triggers: solver::by_keys.
-- requests::put asks for a place below 32: entry::flatten, tape_batches::take_batch.
-- line_readers::walk asks for at most so many bytes that its reader may read as many lines more: reader::read_within and tape::read_tape, once LENGTH was tested.
-- sheet_acts::act asks for room for the frame's row and for tables of their lengths: reader::SheetReader::take, once the line's tests passed.
-- instant::act asks for an instant that is not above the last: step::step_within, once LAST was tested.
-- tape::read_tape asks for at most 65,536 bytes, and as many lines before them: day_input::open_tape, once LENGTH was tested.
-- day_input::open asks for tables of zeros: day_print::print_day.

-- ==== EXCEPTIONS: contracts that leave something open, and why.
-- line_readers::walk has one answer and, where that is a pass, one that was read (`walk_one`, line_readers/Laws/Walks); what its reader holds after a refusal it leaves open: reader::read_within and
-- tape::read_tape, which drop it, alone call it.
-- solver::solve has one content where the rows are in good order and the levels meet the rule, as above. Elsewhere it promises the buffer's length alone. instant::act alone calls it, for what the
-- judge has passed: a refusal of its own would be a second judge.
-- instant::act likewise is exact where the solver is. step::step_within alone calls it, after the judge.
-- keys::chains leaves its places past the triggers open: solver::by_keys, its one caller, does not look there.
-- keys::next may give any number up to the next key: all that solver::by_keys, its one caller, needs is that it leaves none out.
-- turns::settle says what it keeps and that nothing is left to add: the solver's proof needs no more, and from it has one solution. solver::by_keys alone calls it.
