-- READ THIS FIRST: what is proved of the box, demand by demand. Each theorem is stated with the definitions alone, and its proof cites the law that says it.
-- The definitions are document 01's words. `theory` is its model: `Sheet` (rows, limits, due), `Instant` (the equation), `Graph` (loops), `Model` (the paper's runs), `Box` (a step). `reading`
-- (reader/Reading) is what the reader gives, `Outcome` (step/Outcome) what a step gives, `DayOutcome` and `Prints` (day_print/Day) what a day gives and prints, `WriteOutcome` (writer/Outcome) what the
-- writer gives, `ResendOutcome` (resend/Resend) what a sheet gives that is read and written again. The contracts of the code are these same definitions: `read_sheet` (reader/src), `step` (step/src),
-- `step_requests` (entry/src), `day` (day_print/src), `write_sheet` (writer/src), `resend` (resend/src), and `faulty_line` with `faulty_part` (faulty_line/src). None of the eight asks anything of its caller. A few words that no crate below has are in `Words`.
-- First the three demands of the base; then reading, the day, the P table and what is shut out; then the customer's change requests, one after the other.
-- Assumes nothing.
use Rattle.std.specs.Prelude.{◌≡◌, refl, ◌⊎◌, ◌↔◌, true, false, ◌&&◌, List, [], ◌∷◌, ◌++◌, map, ℕ, suc, ◌+◌, ◌*◌, ◌^◌, ◌≤◌, ◌<◌, leb, ltb, eqb, length, get_or, take, drop, Err, Ok, Result}
use Rattle.std.proofs.Common.{sym, ap, ◌∙◌, subst, inl, inr, ⊎_elim, arith}
use Rattle.tables.specs.declared.Counts.{Counts}
use Rattle.theory.specs.Numbers.{ROLES, EVENTS, LAST_INSTANT, SHEET_BYTES, WAITING_NUMBERS, LONGEST_PERIOD, BODY_EVENTS, BODY_CONDITIONS}
use Rattle.theory.specs.Below.{all, tests_below, ExactlyOne}
use Rattle.theory.specs.Events.{Events, Roles}
use Rattle.theory.specs.Sheet.{Sheet, of_roles, is_priority, end_fits, event_tests, GoodOrder}
use Rattle.theory.specs.Instant.{Solves}
use Rattle.theory.specs.Graph.{NoLoop, LoopAt}
use Rattle.theory.specs.Used.{SameUsed}
use Rattle.theory.specs.Model.{Stream}
use Rattle.theory.specs.LoopTest.{PAIRS, loop_place}
use Rattle.theory.proofs.Laws.Loop
use Rattle.theory.proofs.Laws.OneSolution
use Rattle.answers.specs.declared.Name.{Name}
use Rattle.answers.specs.declared.Name.TheVariants.{Length as LENGTH, Kind as KIND, Loop as LOOP}
use Rattle.answers.specs.declared.Refusal.{Refusal}
use Rattle.answers.specs.Answers.{number_of, answered, refusal, verdict_of, Verdict, pass}
use Rattle.text.specs.Lines.{line, lines, all_lines}
use Rattle.frames.specs.Frame.{bytes_of}
use Rattle.kinds.specs.Kinds.{HEADER, PERIODIC, TRIGGER}
use Rattle.fields.specs.Fields.{VERSION, frame_fits, frame_tests, field_byte, FieldColumn}
use Rattle.fields.specs.Laws as Fields
use Rattle.fields.specs.Laws.Bytes as FieldBytes
use Rattle.line_readers.specs.Says.{ColumnSays, FaultyAt}
use Rattle.line_readers.specs.Walks.{refused as stopped}
use Rattle.tables.specs.Layout.{PERIODIC_TABLE, TRIGGER_TABLE, byte_at, two, four}
use Rattle.tables.specs.Buffers.{events_of, Narrow}
use Rattle.tables.specs.Asked.{Asked}
use Rattle.sheet_acts.specs.Acts.{Progress}
use Rattle.reader.specs.Out.{ReadOutcome, read_outcome, sheet_read}
use Rattle.reader.specs.Reading.{reading}
use Rattle.accepted.specs.Laws.Accepted
use Rattle.line_by_line.specs.Lines.{lines_in, rest_in, joined, CutInto}
use Rattle.line_by_line.specs.Tests.{role_count}
use Rattle.line_by_line.specs.ComesBack.{frames_before, RefusedAt, faulty_line, refusal_at, ReadsWhole, periodic_table, trigger_table, counts_of, LengthsFit, frames_in, ComesBack}
use Rattle.line_by_line.proofs.Laws.Cut
use Rattle.table_judge.specs.Judge.{judge_tables}
use Rattle.table_judge.specs.Says.{Says}
use Rattle.writer.specs.Outcome.{WriteOutcome}
use Rattle.round_trips.specs.Order.{in_table_order, PeriodicsFirst, OnlyItsRows}
use Rattle.tables.specs.Lent.{Rules, sheet_in, Lent, rules}
use Rattle.requests.specs.Requests.{AllFit}
use Rattle.step.specs.Outcome.{Outcome}
use Rattle.tables.specs.Used.{SameRules}
use Rattle.step.proofs.Laws.Exact
use Rattle.step.proofs.Laws.Used
use Rattle.runs.specs.Runs.{Steps, GoesOn, IsPapers}
use Rattle.runs.proofs.Laws.{run_is_papers}
use Rattle.day_split.specs.Split.{up_to_end, after_end, sheet_part, tape_part}
use Rattle.day_split.proofs.Laws.Parts
use Rattle.day_split.proofs.Laws.Lines as SplitLines
use Rattle.day_input.specs.Opening.{INPUT_BYTES, opens, refused, sheet_reading, opening}
use Rattle.tape.specs.Tape.{tape_read}
use Rattle.tape.specs.Laws.Column as TapeColumn
use Rattle.faulty_line.specs.Part.{has_line, tapes_end, faulty_part, shown, both_lines, part_at}
use Rattle.faulty_line.specs.Laws.Shown
use Rattle.printed_frames.specs.Frames.{refusal_line}
use Rattle.printed_frames.specs.Back.{ReadsBack}
use Rattle.printed_frames.specs.Laws.Back as PrintedBack
use Rattle.resend.specs.declared.Resent.{Resent}
use Rattle.resend.specs.Resend.{ResendOutcome}
use Rattle.day_lines.specs.Lines.{OUTPUT_BYTES}
use Rattle.day_print.specs.Day.{Prints, DayOutcome, written}
use Rattle.examples.specs.Example.{Said}
use Rattle.examples.specs.Table.{table}
use Rattle.examples.proofs.Laws.Said.{all_say}
use Rattle.claims.specs.Words.{ReadsInOrder, Ordered, WriteLengths, SentBack, SolvesFor, count_in, Shows, EndMissing, NoColumn, no_periodics, no_triggers, looped, worked_sheet, worked, asked, mistyped, EachRefused}
use Rattle.claims.specs.Laws.Numbers
use Rattle.claims.specs.Laws.Reader
use Rattle.claims.specs.Laws.ComesBack as Back
use Rattle.claims.specs.Laws.Columns
use Rattle.claims.specs.Laws.Worked
use Rattle.claims.specs.Laws.Writer
use Rattle.claims.specs.Laws.RoundTrips
use Rattle.claims.specs.Laws.Step
use Rattle.claims.specs.Laws.There
use Rattle.claims.specs.Laws.Day
use Rattle.claims.specs.Laws.Looped
use Rattle.claims.specs.Laws.Shut

-- ==== DEMAND 1, TOTAL: whatever is given gets one of the listed answers, and a refusal changes nothing.

-- OK is number 0, and each number of 1 to 10 is that of exactly one refusal; no refusal has another.
pub ok_is_0 : (answered pass).number ≡ 0
ok_is_0 = refl

pub numbers_are : (n : ℕ) → 1 ≤ n → n ≤ 10 → ExactlyOne (λ (name : Name). number_of name ≡ n)
numbers_are n l m = let x = Numbers.number_each n l m in (x.0, x.1, λ other e. Numbers.number_once other x.0 (e ∙ sym x.1))

pub no_other : (name : Name) → (1 ≤ number_of name) × (number_of name ≤ 10)
no_other = Numbers.no_other

-- The number, the place and the column say which verdict was given.
pub one_verdict : (v w : Verdict) → answered v ≡ answered w → v ≡ w
one_verdict = Numbers.answered_once

-- Any bytes as a sheet, with any two lent tables, have exactly one outcome: an answer, and what the tables hold then.
pub reader_total : (sheet p t : List ℕ) → ExactlyOne (λ (o : ReadOutcome). o ≡ reading sheet p t)
reader_total sheet p t = (reading sheet p t, refl, λ o e. e)

-- After a refusal the tables are as they came.
pub reader_keeps : (sheet p t : List ℕ) (r : Refusal) → (reading sheet p t).answer ≡ Err r → reading sheet p t ≡ read_outcome (Err r) p t
reader_keeps = Reader.reader_keeps

-- Any lent tables and counts, any requests, any instant, roles of 64 bits and buffers of 16-bit numbers, of whatever lengths, have exactly one outcome: an answer, and what is lent then.
pub step_total : (R : Rules) (q : Asked) (l : Lent) → l.roles < 2 ^ 64 → Narrow 16 l.waiting → ExactlyOne (λ (o : Verdict × Lent). Outcome R q l o.0 o.1)
step_total = There.step_total

-- After a refusal the instant, the roles and both buffers are what they were. (The tables are lent to be read only.)
pub step_keeps : (R : Rules) (q : Asked) (l a : Lent) (r : Refusal) → Outcome R q l (Err r) a → a ≡ l
step_keeps R q l a r o = o.refused r refl

-- Unused rows, and the event and condition places of a trigger past its counts, are ignored: two steps with the same counts, used rows, state and requests have the same outcome.
pub unused_ignored : (R R' : Rules) → SameRules R R' → (q : Asked) (l : Lent) (v v' : Verdict) (a a' : Lent) → Outcome R q l v a → Outcome R' q l v' a' → (v ≡ v') × (a ≡ a')
unused_ignored = Used.used_exact

-- Any input, with any lent buffer, has exactly one outcome: an answer, on OK the number of bytes printed there, and what the buffer holds then.
pub day_total : (input out : List ℕ) → ExactlyOne (λ (o : Result ℕ Refusal × List ℕ). DayOutcome input out o.0 o.1)
day_total = There.day_total

-- After a refusal, of the input or for the length of the buffer, nothing is printed there, and the buffer is what it was.
pub day_keeps : (input out out' : List ℕ) (x : Refusal) → DayOutcome input out (Err x) out' → out' ≡ out
day_keeps = Day.day_keeps

-- ==== DEMAND 2, EXACT: a sheet in good order is refused for a loop exactly when its graph has a cycle with a negative edge.

-- A sheet in good order has a loop at exactly one place, or none.
pub loop_or_none : (sh : Sheet) → GoodOrder sh → ExactlyOne (LoopAt sh) ⊎ NoLoop sh
loop_or_none sh good =
    ⊎_elim
    (λ (x : (loop_place sh ≡ PAIRS) × NoLoop sh). inr x.1)
    (λ (y : (loop_place sh < PAIRS) × LoopAt sh (loop_place sh)). inl (loop_place sh, y.1, λ k l. Loop.loop_one sh k (loop_place sh) l y.1))
    (Loop.loop_or sh (OneSolution.good_heads sh good))

-- Bytes that read in good order to their end are such a sheet.
pub reader_order : (sheet p t : List ℕ) (s : Progress) → ReadsInOrder sheet p t s → GoodOrder (sheet_read s)
reader_order = Reader.reader_order

-- The reader's answer to bytes is number 8 (LOOP) and place k exactly when they read in good order and their loop is at k;
pub reader_loops : (sheet p t : List ℕ) (k : ℕ) → (answered (verdict_of (reading sheet p t).answer) ≡ record { number = 8; place = k; column = 0 }) ↔ ((s : Progress) × ReadsInOrder sheet p t s × LoopAt (sheet_read s) k)
reader_loops = Reader.reader_loops

-- then the tables are as they came.
pub reader_loop_keeps : (sheet p t : List ℕ) (s : Progress) → ReadsInOrder sheet p t s → (k : ℕ) → LoopAt (sheet_read s) k → reading sheet p t ≡ read_outcome (Err (refusal LOOP k)) p t
reader_loop_keeps = Reader.refuses_loop

-- It is number 0 (OK) and place 0 exactly when they read in good order and have none;
pub reader_accepts : (sheet p t : List ℕ) → (answered (verdict_of (reading sheet p t).answer) ≡ record { number = 0; place = 0; column = 0 }) ↔ ((s : Progress) × ReadsInOrder sheet p t s × NoLoop (sheet_read s))
reader_accepts = Reader.reader_accepts

-- then what was read is handed out.
pub reader_hands_out : (sheet p t : List ℕ) (s : Progress) → ReadsInOrder sheet p t s → NoLoop (sheet_read s) → reading sheet p t ≡ read_outcome (Ok s.seen.counts) s.tables.periodics s.tables.triggers
reader_hands_out = Reader.accepts_none

-- A step's answer is number 8 and place k exactly when all that is tested before LOOP is in order and the loop of the lent rows is at k,
pub step_loops : (R : Rules) (q : Asked) (l : Lent) (v : Verdict) (a : Lent) → Outcome R q l v a → (k : ℕ) → (answered v ≡ record { number = 8; place = k; column = 0 }) ↔ (Ordered R q l × LoopAt (sheet_in R) k)
step_loops = Step.step_loops

-- and number 0 and place 0 exactly when that is in order, there is no loop, and each request is within its limits.
pub step_ok : (R : Rules) (q : Asked) (l : Lent) (v : Verdict) (a : Lent) → Outcome R q l v a → (answered v ≡ record { number = 0; place = 0; column = 0 }) ↔ (Ordered R q l × NoLoop (sheet_in R) × AllFit R.counts.roles q)
step_ok = Step.step_ok

-- From the empty start, over any run of accepted steps under one sheet, events and roles are the paper's: whatever stands in unused places of the tables that are lent to each, and whatever
-- requests within their limits come later, there is exactly one canonical execution model (004, definitions 3.7 to 3.9), and the steps agree with it in the events of each instant and in the roles before and
-- after it.
pub run_is_the_papers : (n : ℕ) (R : Rules) (tables : ℕ → Rules) (asked : ℕ → Asked) (before after : ℕ → Lent) → Steps (suc n) R tables asked before after → (RQ : Stream) → GoesOn (suc n) R asked RQ
    → IsPapers (suc n) R before after RQ
run_is_the_papers = run_is_papers

-- ==== DEMAND 3, ONE ANSWER: without such a cycle exactly one set of events solves S = Caused(S), and the box hands out that set.

-- In good order without a loop, with any roles before and any givens, exactly one set solves the equation.
pub one_solution : (sh : Sheet) → GoodOrder sh → NoLoop sh → (ST : Roles) (G : Events) → ExactlyOne (Solves sh ST G)
one_solution = OneSolution.one_solution

-- The events buffer after an accepted step holds it: what it holds solves the equation of the instant, and nothing else does.
pub step_hands_it_out : (R : Rules) (q : Asked) (l a : Lent) → Outcome R q l pass a → SolvesFor R q l (events_of a.events) × ((S : Events) → SolvesFor R q l S → S ≡ events_of a.events)
step_hands_it_out = Exact.step_solves

-- And exactly one buffer of 128 numbers of 16 bits holds it.
pub one_buffer_holds_it : (R : Rules) → GoodOrder (sheet_in R) → NoLoop (sheet_in R) → (q : Asked) → AllFit R.counts.roles q → (l : Lent) → Narrow 16 l.waiting
    → ExactlyOne (λ (b : List ℕ). (length b ≡ EVENTS) × Narrow 16 b × SolvesFor R q l (events_of b))
one_buffer_holds_it = Exact.one_buffer_served

-- ==== READING, in document 01's words: its lines (line_by_line/Lines), the tests of a line by their names and in their order (line_by_line/Tests), and what comes back (line_by_line/ComesBack).

-- A text is its lines, each with its final 0A, and what stands after the last 0A; it is cut so in one way, and the reader's lines are these.
pub lines_are : (text : List ℕ) (ls : List (List ℕ)) (rest : List ℕ) → CutInto text ls rest ↔ ((ls ≡ lines_in text) × (rest ≡ rest_in text))
lines_are = Cut.lines_are

-- The reader's outcome is o exactly when o comes back: LENGTH; else the first line that fails a test, with the first test that it fails; else LOOP; else the rows.
pub reader_says : (sheet p t : List ℕ) (o : ReadOutcome) → (reading sheet p t ≡ o) ↔ ComesBack sheet p t o
reader_says = Back.reader_says

-- So a refusal at k with a name other than LENGTH and LOOP says, and is given exactly when: lines 1 to k − 1 pass all their tests, and line k fails the test of that name and passes those
-- before it; or it is the last and has no final 0A, FRAME; or there is no line k and no end frame, KIND.
pub reader_refuses : (sheet p t : List ℕ) (name : Name) (k : ℕ) → ¬ (name ≡ LENGTH) → ¬ (name ≡ LOOP)
    → (reading sheet p t ≡ read_outcome (Err (refusal_at (lines_in sheet) (rest_in sheet) name k)) p t)
    ↔ (LengthsFit sheet p t × RefusedAt (lines_in sheet) (rest_in sheet) name k)
reader_refuses = Back.reader_refuses

-- Reading goes on to its end, where LOOP alone is asked, exactly when every line passes all its tests and the end frame is there.
pub reader_whole : (sheet p t : List ℕ) → ((s : Progress) × ReadsInOrder sheet p t s) ↔ (LengthsFit sheet p t × ReadsWhole (lines_in sheet) (rest_in sheet))
reader_whole = Back.reader_whole

-- On success the role count is the header's, the counts are those of the frames, and each table holds the rows of its frames in sheet order and is otherwise zero.
pub reader_tables : (sheet p t : List ℕ) (r : Counts) (p' t' : List ℕ) → reading sheet p t ≡ read_outcome (Ok r) p' t'
    → (r ≡ counts_of (frames_in sheet)) × (p' ≡ periodic_table (frames_in sheet)) × (t' ≡ trigger_table (frames_in sheet))
reader_tables = Back.reader_tables

-- And what the reader accepts, the judge of a step passes.
pub reading_passes : (sheet p t : List ℕ) (r : Counts) (p' t' : List ℕ) → reading sheet p t ≡ read_outcome (Ok r) p' t'
    → judge_tables (sheet_in (rules r p' t')) ≡ pass
reading_passes = Accepted.reading_passes

-- ==== THE DAY: an input prints exactly one thing, the refusal, or the lines of the paper's canonical execution model of its sheet and its tape (`Prints`).

-- The lines of its sheet are those up to and with the first that begins F0, or all of them; the lines of its tape are those after it; and the two parts make up the input.
pub parts_are : (input : List ℕ) → (lines (sheet_part input) ≡ up_to_end (lines input)) × (lines (tape_part input) ≡ after_end (lines input)) × (sheet_part input ++ tape_part input ≡ input)
parts_are input = (Parts.sheet_lines_lem input, Parts.tape_lines input, Parts.parts_whole input)

-- An input has exactly one day.
pub one_day : (input : List ℕ) → ExactlyOne (Prints (opening input))
one_day = There.one_day

-- With a buffer of its exact length, what the program writes of the outcome (`written`) is that: the lines that stand in the buffer, or the line that `refusal_line` (printed_frames/src) makes of
-- the refusal. Nothing else is.
pub day_prints : (input out : List ℕ) (r : Result ℕ Refusal) (out' : List ℕ) → length out ≡ OUTPUT_BYTES → DayOutcome input out r out'
    → Prints (opening input) (written r out') × ((other : List ℕ) → Prints (opening input) other → other ≡ written r out')
day_prints = Day.day_prints

-- The answer is number 0 (OK), place 0 and column 0 exactly when the input opens: its sheet, its requests and its last instant are there.
pub day_ok : (input out : List ℕ) (r : Result ℕ Refusal) (out' : List ℕ) → length out ≡ OUTPUT_BYTES → DayOutcome input out r out'
    → (answered (verdict_of r) ≡ record { number = 0; place = 0; column = 0 }) ↔ ((sh : Sheet) × (RQ : Stream) × (last : ℕ) × (opening input ≡ opens sh RQ last))
day_ok = Day.day_ok

-- It is another number n, place k and column m exactly when the input is refused with that number, that place and that column.
pub day_refuses : (input out : List ℕ) (r : Result ℕ Refusal) (out' : List ℕ) → length out ≡ OUTPUT_BYTES → DayOutcome input out r out'
    → (n k m : ℕ) → 1 ≤ n → (answered (verdict_of r) ≡ record { number = n; place = k; column = m }) ↔ ((x : Refusal) × (opening input ≡ refused x) × (number_of x.name ≡ n) × (x.place ≡ k) × (x.column ≡ m))
day_refuses = Day.day_refuses

-- With a buffer of another length it is number 1 (LENGTH), place 0 and column 0.
pub day_length : (input out : List ℕ) (r : Result ℕ Refusal) (out' : List ℕ) → (length out ≡ OUTPUT_BYTES → ⊥) → DayOutcome input out r out' → answered (verdict_of r) ≡ record { number = 1; place = 0; column = 0 }
day_length = Day.day_length

-- ==== THE P TABLE: every bench example that document 01 marks P says what is true.
pub p_table : Said table
p_table = all_say

-- ==== SHUT OUT, as 'How far a contract must go' lists it.

-- A box that refuses everything: the answer to the worked sheet is 0 and 0, and its rows are handed out.
pub not_all_refused : (answered (verdict_of (reading worked_sheet no_periodics no_triggers).answer) ≡ record { number = 0; place = 0; column = 0 })
    × (reading worked_sheet no_periodics no_triggers ≡ read_outcome (Ok (record { roles = 3; periodics = 1; triggers = 2 })) worked.tables.periodics worked.tables.triggers)
not_all_refused = (ap (λ (o : ReadOutcome). answered (verdict_of o.answer)) (Shut.is_worked).read, (Shut.is_worked).read)

-- A test that passes everything: the answer to "enable 0 gives disable 0" is 8 and 0, and the tables are as they came.
pub not_all_passed : (answered (verdict_of (reading looped no_periodics no_triggers).answer) ≡ record { number = 8; place = 0; column = 0 })
    × (reading looped no_periodics no_triggers ≡ read_outcome (Err (refusal LOOP 0)) no_periodics no_triggers)
not_all_passed = (ap (λ (o : ReadOutcome). answered (verdict_of o.answer)) Looped.not_all_passed, Looped.not_all_passed)

-- The first two minutes of the worked input can be run,
pub minutes_run : (before : ℕ → Lent) × (after : ℕ → Lent) × Steps 2 worked (λ t. worked) asked before after
minutes_run = Shut.minutes_run

-- and in any run of them: a step with one fixed set, or a box right at its first instant that afterwards repeats itself, has the wrong events,
pub not_one_set : (tables : ℕ → Rules) (before after : ℕ → Lent) → Steps 2 worked tables asked before after → (after 0).events ≡ (after 1).events → ⊥
not_one_set = Shut.not_one_set

-- a step that leaves the roles as they were has the wrong roles,
pub not_same_roles : (tables : ℕ → Rules) (before after : ℕ → Lent) → Steps 2 worked tables asked before after → (before 1).roles ≡ (after 1).roles → ⊥
not_same_roles = Shut.not_same_roles

-- and in no step does the instant stay.
pub not_same_instant : (R : Rules) (q : Asked) (l a : Lent) → Outcome R q l pass a → a.instant ≡ suc l.instant
not_same_instant R q l a o = (o.passed refl).step.instant

-- A made-up event count: the count of the buffer that is handed out, which `count` (roles_after/src) gives and a day prints, is that of whatever set solves the equation;
pub count_is_the_solutions : (R : Rules) (q : Asked) (l a : Lent) → Outcome R q l pass a → (S : Events) → SolvesFor R q l S → count_in (events_of a.events) ≡ count_in S
count_is_the_solutions R q l a o S s = sym (ap count_in ((Exact.step_solves R q l a o).1 S s))

-- in the worked input's first two minutes 0, then 2.
pub counts_are : (tables : ℕ → Rules) (before after : ℕ → Lent) → Steps 2 worked tables asked before after → (count_in (events_of (after 0).events) ≡ 0) × (count_in (events_of (after 1).events) ≡ 2)
counts_are = Shut.counts_are

-- ==== REQUEST 1, SEND THE SHEET BACK OUT: what the writer answers, what it writes, and both round trips.

-- Any lent tables of bytes with any counts, and any lent buffer, of whatever lengths, have exactly one outcome: an answer, on OK the number of bytes written, and what the buffer holds then.
pub writer_total : (R : Rules) (out : List ℕ) → Narrow 8 R.tables.periodics → Narrow 8 R.tables.triggers → ExactlyOne (λ (o : Result ℕ Refusal × List ℕ). WriteOutcome R out o.0 o.1)
writer_total = Writer.writer_total

-- After a refusal nothing is written, and the buffer is what it was. (The tables are lent to be read only.)
pub writer_keeps : (R : Rules) (out out' : List ℕ) (x : Refusal) → WriteOutcome R out (Err x) out' → out' ≡ out
writer_keeps R out out' x o = o.refused x refl

-- On OK what lies past the written length stays.
pub writer_stays : (R : Rules) (out : List ℕ) (n : ℕ) (out' : List ℕ) → WriteOutcome R out (Ok n) out' → (drop n out' ≡ drop n out) × (length out' ≡ length out)
writer_stays = Writer.writer_stays

-- Unused rows, and the event and condition places of a trigger past its counts, are neither tested nor written: tables that are the same in all that is used have the same outcome.
pub writer_unused : (R R' : Rules) → SameRules R R' → (out : List ℕ) (r r' : Result ℕ Refusal) (out' out'' : List ℕ) → WriteOutcome R out r out' → WriteOutcome R' out r' out'' → (r ≡ r') × (out' ≡ out'')
writer_unused = Writer.writer_used

-- The answer is number 1 (LENGTH) and place 0 where a table or the buffer has not its exact length;
pub writer_length : (R : Rules) (out : List ℕ) (r : Result ℕ Refusal) (out' : List ℕ) → WriteOutcome R out r out' → ¬ WriteLengths R out → answered (verdict_of r) ≡ record { number = 1; place = 0; column = 0 }
writer_length = Writer.writer_length

-- else it is the one verdict that says what is so of the tables (`Says`, table_judge/Says): TOO MANY at 0, FIELD at 0 for the role count or at the first bad row, LOOP at the pair, or OK.
pub writer_says : (R : Rules) (out : List ℕ) (r : Result ℕ Refusal) (out' : List ℕ) → WriteOutcome R out r out' → WriteLengths R out → (v : Verdict) → Says (sheet_in R) v ↔ (v ≡ verdict_of r)
writer_says = Writer.writer_says

-- That is a step's own answer, where the step meets neither LAST nor REQUEST: a step with the same tables, without requests, at an instant that is not above the last, with buffers of their lengths.
pub writer_as_step : (R : Rules) (out : List ℕ) (r : Result ℕ Refusal) (out' : List ℕ) → WriteOutcome R out r out' → WriteLengths R out
    → (q : Asked) → q.count ≡ 0 → (l : Lent) → length l.waiting ≡ WAITING_NUMBERS → length l.events ≡ EVENTS → l.instant ≤ LAST_INSTANT
    → (v : Verdict) (a : Lent) → Outcome R q l v a → verdict_of r ≡ v
writer_as_step = Writer.writer_as_step

-- So it is number 8 and place k exactly when the lengths are right, the rows are in good order and their loop is at k,
pub writer_loops : (R : Rules) (out : List ℕ) (r : Result ℕ Refusal) (out' : List ℕ) → WriteOutcome R out r out'
    → (k : ℕ) → (answered (verdict_of r) ≡ record { number = 8; place = k; column = 0 }) ↔ (WriteLengths R out × GoodOrder (sheet_in R) × LoopAt (sheet_in R) k)
writer_loops = Writer.writer_loops

-- and number 0 and place 0 exactly when the lengths are right, the rows are in good order and there is no loop.
pub writer_ok : (R : Rules) (out : List ℕ) (r : Result ℕ Refusal) (out' : List ℕ) → WriteOutcome R out r out'
    → (answered (verdict_of r) ≡ record { number = 0; place = 0; column = 0 }) ↔ (WriteLengths R out × GoodOrder (sheet_in R) × NoLoop (sheet_in R))
writer_ok = Writer.writer_ok

-- Every written sheet fits: it has at most 12,692 bytes.
pub writer_fits : (R : Rules) (out : List ℕ) (n : ℕ) (out' : List ℕ) → WriteOutcome R out (Ok n) out' → n ≤ 12692
writer_fits = RoundTrips.written_short

-- Its lines are in table order: the header, the periodic rows, the triggers, the end.
pub writer_in_order : (R : Rules) (out : List ℕ) (n : ℕ) (out' : List ℕ) → WriteOutcome R out (Ok n) out' → in_table_order (lines_in (take n out')) ≡ lines_in (take n out')
writer_in_order = RoundTrips.written_order

-- READING WHAT WAS WRITTEN: the reader accepts the written bytes, and hands out the same counts, and tables that are the same in every used row and place, in the same order, and zero in every other.
pub reads_what_was_written : (R : Rules) (out : List ℕ) (n : ℕ) (out' : List ℕ) → WriteOutcome R out (Ok n) out'
    → (p t : List ℕ) → length p ≡ PERIODIC_TABLE → length t ≡ TRIGGER_TABLE
    → (R' : Rules) × (reading (take n out') p t ≡ read_outcome (Ok R'.counts) R'.tables.periodics R'.tables.triggers) × OnlyItsRows R R'
reads_what_was_written = RoundTrips.reads_what_was_written

-- WRITING WHAT WAS READ: every accepted sheet is sent back, as exactly one text (`SentBack`, Words): what the writer writes of what the reader handed out.
pub sent_back : (sheet p t : List ℕ) → answered (verdict_of (reading sheet p t).answer) ≡ record { number = 0; place = 0; column = 0 } → ExactlyOne (SentBack sheet)
sent_back = RoundTrips.sent_one

-- It is the sheet's header line, its periodic lines in their order, its trigger lines in their order and its end line, each byte for byte as it stood;
pub writes_what_was_read : (sheet text : List ℕ) → SentBack sheet text → text ≡ joined (in_table_order (lines_in sheet))
writes_what_was_read = RoundTrips.sent_order

-- where all periodic frames stand before the triggers, it is the same bytes.
pub writes_the_same : (sheet text : List ℕ) → SentBack sheet text → PeriodicsFirst (lines_in sheet) → text ≡ sheet
writes_the_same = RoundTrips.sent_same

-- THE READER IS COMPLETE: every sheet in good order without a loop, its rows being numbers, has bytes that the reader accepts as just that sheet.
pub reader_complete : (sh : Sheet) → GoodOrder sh → NoLoop sh → (p t : List ℕ) → length p ≡ PERIODIC_TABLE → length t ≡ TRIGGER_TABLE
    → (sheet : List ℕ) × (R : Rules) × (reading sheet p t ≡ read_outcome (Ok R.counts) R.tables.periodics R.tables.triggers) × SameUsed sh (sheet_in R)
reader_complete = RoundTrips.reader_complete

-- READ AND WRITTEN AGAIN in one call, a sheet alone or before a tape: any input, with any lent buffer, has exactly one outcome.
pub resend_total : (input out : List ℕ) → ExactlyOne (λ (o : Result Resent Refusal × List ℕ). ResendOutcome input out o.0 o.1)
resend_total = RoundTrips.resend_total

-- With an input and a buffer of their lengths the verdict is the reader's on the input's sheet;
pub resend_verdict : (input out : List ℕ) (r : Result Resent Refusal) (out' : List ℕ) → ResendOutcome input out r out'
    → (length input ≤ INPUT_BYTES) × (length out ≡ SHEET_BYTES) → verdict_of r ≡ verdict_of (sheet_reading input).answer
resend_verdict = RoundTrips.resend_verdict

-- else the answer is number 1 (LENGTH) and place 0.
pub resend_length : (input out : List ℕ) (r : Result Resent Refusal) (out' : List ℕ) → ResendOutcome input out r out'
    → ¬ ((length input ≤ INPUT_BYTES) × (length out ≡ SHEET_BYTES)) → answered (verdict_of r) ≡ record { number = 1; place = 0; column = 0 }
resend_length = RoundTrips.resend_length

-- After a refusal nothing is written, and the buffer is what it was.
pub resend_keeps : (input out : List ℕ) (x : Refusal) (out' : List ℕ) → ResendOutcome input out (Err x) out' → out' ≡ out
resend_keeps = RoundTrips.resend_keeps

-- On OK the sheet's lines in table order, each as it stood, are written, and from the byte `from` on the input is all that follows its sheet;
pub resend_writes : (input out : List ℕ) (s : Resent) (out' : List ℕ) → ResendOutcome input out (Ok s) out'
    → (take s.length out' ≡ joined (in_table_order (lines_in (sheet_part input)))) × (drop s.from input ≡ tape_part input)
resend_writes = RoundTrips.resend_writes

-- what lies past the written length stays;
pub resend_stays : (input out : List ℕ) (s : Resent) (out' : List ℕ) → ResendOutcome input out (Ok s) out' → (drop s.length out' ≡ drop s.length out) × (length out' ≡ length out)
resend_stays = RoundTrips.resend_stays

-- and where all periodic frames stand before the triggers, the sheet's own bytes are written.
pub resend_same : (input out : List ℕ) (s : Resent) (out' : List ℕ) → ResendOutcome input out (Ok s) out' → PeriodicsFirst (lines_in (sheet_part input))
    → take s.length out' ≡ sheet_part input
resend_same = RoundTrips.resend_same

-- An example, and what shuts out a writer that writes nothing: of the worked sheet's tables the worked sheet's own bytes are written.
pub worked_is_written : (out : List ℕ) → length out ≡ SHEET_BYTES → (r : Result ℕ Refusal) (out' : List ℕ) → WriteOutcome worked out r out' → (n : ℕ) × (r ≡ Ok n) × (take n out' ≡ worked_sheet)
worked_is_written out whole r out' o =
    let w = RoundTrips.writes_what_was_read worked_sheet no_periodics no_triggers _ _ _ (Shut.is_worked).read out whole out' r o in
    (w.0, w.1, w.2 ∙ RoundTrips.worked_in_order)

-- ==== REQUEST 2, SHOW ME THE LINE AND THE COLUMN: what the column of a refusal says (`ColumnSays`, line_readers/Says), the line for the screen (`faulty_part`, faulty_line/Part), and E0. `reading`, `opening` and
-- what a day prints hold the column, so that the theorems above say that it is the one.

-- The column of a sheet's refusal, in the line of its place: FRAME, the first character that is no digit, all before it are; or, where all are, one past the last. CHECK, the last digit but one.
-- FIELD, the first digit of a field that is outside its limit while all fields before it are within. Any other, LENGTH and LOOP among them, 0.
pub reader_column : (sheet p t : List ℕ) (r : Refusal) → reading sheet p t ≡ read_outcome (Err r) p t
    → ColumnSays r.name (faulty_line (lines_in sheet) (rest_in sheet) r.place)
    (FieldColumn (role_count (frames_before (lines_in sheet) r.place)) (bytes_of (faulty_line (lines_in sheet) (rest_in sheet) r.place))) r.column
reader_column = Columns.reader_column

-- Each kind of frame has one list of tests, one a field: FIELD is given exactly where one of them fails, and its column is by the first that does (`FieldColumn`).
pub field_tests : (k roles : ℕ) (f : List ℕ) → frame_fits k roles f ≡ all (frame_tests k roles f)
field_tests = Fields.frame_tests_lem

-- The test of each field looks at the bytes where that field stands. A header's are byte 1, the version, and byte 2, the role count;
pub header_bytes : (roles : ℕ) (f : List ℕ) → frame_tests HEADER roles f ≡ eqb (byte_at f 1) VERSION ∷ (leb 1 (byte_at f 2) && leb (byte_at f 2) ROLES) ∷ []
header_bytes = FieldBytes.header_bytes

-- a periodic row's: begin from byte 1 on, end from 5, period from 9, first from 11, run from 13, event 15, priority 16;
pub periodic_bytes : (roles : ℕ) (f : List ℕ) → frame_tests PERIODIC roles f
    ≡ leb (four f 1) LAST_INSTANT
    ∷ end_fits (four f 1) (four f 5)
    ∷ (leb 1 (two f 9) && leb (two f 9) LONGEST_PERIOD)
    ∷ ltb (two f 11) (two f 9)
    ∷ (leb 1 (two f 13) && leb (two f 13) (two f 9))
    ∷ of_roles roles (byte_at f 15)
    ∷ is_priority (byte_at f 16)
    ∷ []
periodic_bytes = FieldBytes.periodic_bytes

-- a trigger's: the counts at 1 and 2, and where these are within their limits, the events and then the conditions from 3 on, head, priority and delay after them.
pub trigger_bytes : (roles : ℕ) (f : List ℕ) → byte_at f 1 ≤ BODY_EVENTS → byte_at f 2 ≤ BODY_CONDITIONS → frame_tests TRIGGER roles f
    ≡ (leb 1 (byte_at f 1) && leb (byte_at f 1) BODY_EVENTS) ∷ leb (byte_at f 2) BODY_CONDITIONS ∷ (tests_below (byte_at f 1 + byte_at f 2) (λ j. of_roles roles (byte_at f (3 + j)))
    ++ event_tests roles (byte_at f (3 + byte_at f 1 + byte_at f 2)) (byte_at f (3 + byte_at f 1 + byte_at f 2 + 1)) (byte_at f (3 + byte_at f 1 + byte_at f 2 + 2)))
trigger_bytes = FieldBytes.trigger_bytes

-- So the fields begin in these columns: a header's at 3 and 5; a periodic row's at 3, 11, 19, 23, 27, 31 and 33; a trigger's one after the other, two digits each, from 3 on.
pub field_columns : (map (λ (i : ℕ). 2 * field_byte HEADER i + 1) (0 ∷ 1 ∷ []) ≡ 3 ∷ 5 ∷ [])
    × (map (λ (i : ℕ). 2 * field_byte PERIODIC i + 1) (0 ∷ 1 ∷ 2 ∷ 3 ∷ 4 ∷ 5 ∷ 6 ∷ []) ≡ 3 ∷ 11 ∷ 19 ∷ 23 ∷ 27 ∷ 31 ∷ 33 ∷ [])
    × ((i : ℕ) → 2 * field_byte TRIGGER i + 1 ≡ 3 + 2 * i)
field_columns = (refl, refl, λ i. omega arith)

-- A tape's refusal is at one of its lines, counted on from the sheet's, with its column: FRAME and CHECK as in a sheet, FIELD at the instant, column 3, any other 0. Or it is KIND at the line after the last.
pub tape_column : (roles before : ℕ) (tape : List ℕ) (r : Refusal) → tape_read roles before tape ≡ stopped r
    → FaultyAt (λ k. k ≡ 3) (all_lines (lines tape)) before r ⊎ (r ≡ refusal KIND (before + length (all_lines (lines tape)) + 1))
tape_column = TapeColumn.tape_faulty

-- In a step there is no line, and no column.
pub step_column : (R : Rules) (q : Asked) (l : Lent) (v : Verdict) (a : Lent) → Outcome R q l v a → NoColumn v
step_column R q l v a o = subst NoColumn (sym o.judged) (Columns.step_none R q l)

-- The line for the screen holds, of any two texts, the line of the refusal's place, of the lines of the sheet and then of the tape;
pub line_shown : (sheet tape : List ℕ) (r : Refusal) → has_line r.name ≡ true → (n : ℕ) → r.place ≡ suc n → n < length (both_lines sheet tape)
    → shown (faulty_part sheet tape r) sheet tape ≡ get_or (both_lines sheet tape) n []
line_shown = Shown.shows_line

-- it is a part of the sheet where the sheet has so many lines, and else of the tape, and it stands where that line does, from its first byte up to its 0A or the end: an empty line too, and the second of two equal ones;
pub part_of_sheet : (sheet tape : List ℕ) (r : Refusal) → has_line r.name ≡ true → (n : ℕ) → r.place ≡ suc n → n < length (all_lines (lines sheet))
    → faulty_part sheet tape r ≡ part_at false (all_lines (lines sheet)) n
part_of_sheet = Shown.part_of_sheet

pub part_of_tape : (sheet tape : List ℕ) (r : Refusal) → has_line r.name ≡ true → (m : ℕ) → r.place ≡ suc (length (all_lines (lines sheet)) + m) → m < length (all_lines (lines tape))
    → faulty_part sheet tape r ≡ part_at true (all_lines (lines tape)) m
part_of_tape = Shown.part_of_tape

-- and where the place is no line, is 0 or is past the last, it is the empty part at the tape's end.
pub line_not_shown : (sheet tape : List ℕ) (r : Refusal) → ¬ ((has_line r.name ≡ true) × (1 ≤ r.place) × (r.place ≤ length (both_lines sheet tape))) → faulty_part sheet tape r ≡ tapes_end tape
line_not_shown = Columns.not_shown

-- Of an input that is refused with a column the line is there, and the column lies in it or one past its end. (The part that is shown is empty only where the line is.) The lines of the two parts are those of the input.
pub line_there : (input : List ℕ) (r : Refusal) → opening input ≡ refused r → ¬ (r.column ≡ 0) → Shows (sheet_part input) (tape_part input) r
line_there = Columns.line_there

pub lines_of_both : (input : List ℕ) → both_lines (sheet_part input) (tape_part input) ≡ all_lines (lines input)
lines_of_both = SplitLines.both_lines_lem

-- The same of a sheet that the reader refuses, whatever tape is beside it.
pub reader_shows : (sheet tape : List ℕ) (r : Refusal) (p t : List ℕ) → reading sheet p t ≡ read_outcome (Err r) p t → ¬ (r.column ≡ 0) → Shows sheet tape r
reader_shows = Columns.reader_shows

-- And of any refusal of an input that is at a line, with a column or without: the line is there, or it is the one after the last, where an end is missing.
pub line_or_end : (input : List ℕ) (r : Refusal) → opening input ≡ refused r → has_line r.name ≡ true
    → Shows (sheet_part input) (tape_part input) r ⊎ ((n : ℕ) × (n ≤ length (all_lines (lines input))) × EndMissing n r)
line_or_end = Columns.line_or_end

-- E0 reads back, number, place and column, wherever the last two are below 2 to the power 32;
pub refusal_reads : (r : Refusal) → r.place < 2 ^ 32 → r.column < 2 ^ 32 → (more : List ℕ) → (l : List ℕ) × (lines (refusal_line r ++ more) ≡ line l (lines more)) × ReadsBack l r
refusal_reads = PrintedBack.refusal_reads

-- and of any refusal of an input they are.
pub numbers_small : (input : List ℕ) (r : Refusal) → opening input ≡ refused r → (r.place < 2 ^ 32) × (r.column < 2 ^ 32)
numbers_small = Columns.numbers_small

-- Eight mistyped sheets, each refused at its line and in its column.
pub mistyped_refused : EachRefused mistyped
mistyped_refused = Worked.mistyped_refused
