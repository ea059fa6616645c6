-- The test of an example, which computes: where it passes, what the example says is true (`Sound`). It asks only what is finite: lines, rows, requests, triggers and listed events.
-- Assumes nothing.
use Rattle.std.specs.Prelude.{Bool, true, false, not, cond, ◌&&◌, ◌||◌, List, [], ◌∷◌, ℕ, suc, ◌+◌, ◌/◌, ◌%◌, leb, ltb, eqb, length, get_or}
use Rattle.std.specs.Bool.{beq}
use Rattle.theory.specs.Numbers.{ROLES, EVENTS, PERIODIC_ROWS, TRIGGER_ROWS}
use Rattle.theory.specs.Below.{any_below, all_below}
use Rattle.theory.specs.Events.{Events, disable, enable, odd, conf, blocked, nonblocked}
use Rattle.theory.specs.Sheet.{Sheet, periodic_fits, trigger_fits, row_due}
use Rattle.theory.specs.Instant.{immediate, allows, met, ready, roles_after}
use Rattle.theory.specs.Graph.{Edges, counts, node, minus, edge, pair_place}
use Rattle.theory.specs.LoopTest.{PAIRS}
use Rattle.theory.specs.Model.{Stream, Trace, no_roles}
use Rattle.theory.specs.Box.{row, givens, row_after, trace_of}
use Rattle.theory.proofs.Laws.Exists.{round}
use Rattle.tables.specs.Layout.{PERIODIC_TABLE, TRIGGER_TABLE, padded}
use Rattle.text.specs.Lines.{Lines, none, endless, line, lines}
use Rattle.frames.specs.Frame.{bytes_of}
use Rattle.kinds.specs.Kinds.{kind}
use Rattle.tables.specs.declared.Counts.{Counts}
use Rattle.line_readers.specs.Walks.{Going, goes, refused}
use Rattle.sheet_acts.specs.Acts.{Progress}
use Rattle.reader.specs.Lines.{reads}
use Rattle.reader.specs.Reading.{start, sheet_lengths_fit}
use Rattle.day_split.specs.Split.{sheet_part, tape_part, sheet_lines}
use Rattle.tape_frames.specs.Frame.{ASK, instant_of, asked_in}
use Rattle.tape_tests.specs.declared.Heard.{Heard}
use Rattle.tape_tests.specs.Tests.{last_instant}
use Rattle.tape.specs.Tape.{tape_read}
use Rattle.day_input.specs.Opening.{INPUT_BYTES}
use Rattle.day_lines.specs.Lines.{minute_lines}
use Rattle.examples.specs.Written.{Prioritized, ◌∶◌, at, first, among, Rule, trigger_of, rule_at, sheet_with, Requested, ◌asked-at◌after◌, stream_of, Waits, wait_at, roles_in, rows_in, state_of}
use Rattle.examples.specs.Day.{text, Minute, Day, sheet_of_day, minute_at, roles_before, waits_before, state_before}
use Rattle.examples.specs.Example.{Example, each, due_at, wins_over, accepted, loops, solved, as_given, never_fires, worked, row_of}

-- where a passes, b does
infix 20 ◌⇒◌
abbrev pub ◌⇒◌ : Bool → Bool → Bool
a ⇒ b = not a || b

-- each of the listed prioritized events passes
abbrev pub each_of : List Prioritized → Events → Bool
each_of ms X = all_below (length ms) (λ i. X (at ms i).event (at ms i).priority)

-- each of the listed ones that wait passes, with its row
abbrev pub each_waiting : List Waits → (ℕ → Events) → Bool
each_waiting ws X = all_below (length ws) (λ i. X (row (wait_at ws i).instant) (wait_at ws i).what.event (wait_at ws i).what.priority)

-- each request passes, with its instant and its delay
abbrev pub each_asked : List Requested → Stream → Bool
each_asked [] X = true
each_asked (q ∷ qs) X = X q.instant q.delay q.what.event q.what.priority && each_asked qs X

-- ---- good order

-- no field and no count of the sheet is outside its limit
unfoldable pub good_order : Sheet → Bool
good_order sh =
    ((leb 1 sh.role_count && leb sh.role_count ROLES)
    && (leb sh.periodic_count PERIODIC_ROWS && leb sh.trigger_count TRIGGER_ROWS))
    && (all_below sh.periodic_count (λ i. periodic_fits sh.role_count (sh.periodic i))
    && all_below sh.trigger_count (λ i. trigger_fits sh.role_count (sh.trigger i)))

-- the rules alone, with so many roles
abbrev pub rules_alone : ℕ → List Rule → Sheet
rules_alone roles = sheet_with (record { role_count = roles; periodic_count = 0; periodic = λ i. row_of 1 0 1 0 0 })

-- ---- loops

-- the levels meet the rule of `Levels`
unfoldable pub leveled : Sheet → (ℕ → ℕ) → Bool
leveled sh level =
    all_below sh.trigger_count (λ i. counts sh i
    ⇒ all_below (sh.trigger i).event_count (λ j.
    (node sh ((sh.trigger i).event j) ⇒ leb (level ((sh.trigger i).event j)) (level (sh.trigger i).head))
    && (node sh (conf ((sh.trigger i).event j)) ⇒ ltb (level (conf ((sh.trigger i).event j))) (level (sh.trigger i).head))))

-- the levels of a list, of the events from 0 on
abbrev pub listed : List ℕ → ℕ → ℕ
listed levels e = get_or levels e 0

-- an edge leads from a to the first event, from each to the next, and so to b
abbrev pub leads : Edges → ℕ → List ℕ → ℕ → Bool
leads E a [] b = eqb a b
leads E a (m ∷ ms) b = E a m && leads E m ms b

-- the pair of this place is a − edge, the events lead back, and no − edge has a place before it
unfoldable pub loops_at : Sheet → ℕ → List ℕ → Bool
loops_at sh place back =
    ltb place PAIRS
    && (minus sh (place / EVENTS) (place % EVENTS)
    && (leads (edge sh) (place % EVENTS) back (place / EVENTS)
    && all_below sh.trigger_count (λ i. counts sh i
    ⇒ all_below (sh.trigger i).event_count (λ j.
    node sh (conf ((sh.trigger i).event j)) ⇒ leb place (pair_place (conf ((sh.trigger i).event j)) (sh.trigger i).head)))))

-- ---- solutions

-- each member is given, or the head of a trigger that fires by the members before it; and each trigger that fires has its head among them
unfoldable pub self_caused : Sheet → (ℕ → Bool) → Events → List Prioritized → Bool
self_caused sh on G ms =
    all_below (length ms) (λ i. round sh on G (among ms) (first i ms) (at ms i).event (at ms i).priority)
    && all_below sh.trigger_count (λ i.
    (on i && met (among ms) (among ms) (sh.trigger i)) ⇒ among ms (sh.trigger i).head (sh.trigger i).priority)

-- the events a and b are the enable and the disable of one role
abbrev pub opposed : ℕ → ℕ → Bool
opposed a b = eqb a (enable (b / 2)) && eqb b (disable (b / 2))

-- ---- a day: what it opens

-- two lists are the same
abbrev pub same : List ℕ → List ℕ → Bool
same [] [] = true
same [] (b ∷ l) = false
same (a ∷ k) [] = false
same (a ∷ k) (b ∷ l) = eqb a b && same k l

-- the lines were read to these counts and tables
abbrev pub read_to : Going Progress → Counts → List ℕ → List ℕ → Bool
read_to (goes s) r p t =
    ((eqb s.seen.counts.roles r.roles && eqb s.seen.counts.periodics r.periodics) && eqb s.seen.counts.triggers r.triggers)
    && (same s.tables.periodics p && same s.tables.triggers t)
read_to (refused r) _ p t = false

-- the sheet's lines are read to what is expected
unfoldable pub read_found : Day → Bool
read_found d =
    sheet_lengths_fit (length (sheet_part (text d.input))) (length (padded PERIODIC_TABLE [])) (length (padded TRIGGER_TABLE []))
    && read_to (reads (goes start) (lines (sheet_part (text d.input)))) d.read (padded PERIODIC_TABLE d.periodics) (padded TRIGGER_TABLE d.triggers)

-- the tape's lines were read to this last instant
abbrev pub heard_to : Going Heard → ℕ → Bool
heard_to (goes s) last = eqb (last_instant s) last
heard_to (refused r) last = false

-- what a request's frame asks for
abbrev pub ask_of : List ℕ → Requested
ask_of f = (asked_in f).priority ∶ (asked_in f).event asked-at instant_of f after (asked_in f).delay

-- the requests of a tape's lines
unfoldable pub asks_of : Lines → List Requested
asks_of none = []
asks_of (endless l) = []
asks_of (line l ls) = cond (eqb (kind (bytes_of l)) ASK) (ask_of (bytes_of l) ∷ asks_of ls) (asks_of ls)

-- two lists of requests are the same
abbrev pub same_asked : List Requested → List Requested → Bool
same_asked [] [] = true
same_asked [] (r ∷ rs) = false
same_asked (q ∷ qs) [] = false
same_asked (q ∷ qs) (r ∷ rs) =
    ((eqb q.what.event r.what.event && eqb q.what.priority r.what.priority) && (eqb q.instant r.instant && eqb q.delay r.delay))
    && same_asked qs rs

-- what came of the tape's lines
abbrev pub heard : Day → Going Heard
heard d = tape_read d.read.roles (sheet_lines (lines (text d.input))) (tape_part (text d.input))

-- the input is within its limit, its sheet is read to what is expected, and its tape to the last instant and the requests
unfoldable pub open_found : Day → Bool
open_found d =
    (leb (length (text d.input)) INPUT_BYTES && read_found d)
    && (heard_to (heard d) d.last && same_asked (asks_of (lines (tape_part (text d.input)))) d.requests)

-- ---- a day: its instants

-- what is due, what waits for the instant and what is asked for at it without delay is among the events
unfoldable pub givens_held : Sheet → List Requested → ℕ → List Waits → Events → Bool
givens_held sh qs t ws S =
    all_below sh.periodic_count (λ i. row_due (sh.periodic i) t ⇒ S (sh.periodic i).event (sh.periodic i).priority)
    && (each_waiting ws (λ k e p. eqb k (row t) ⇒ S e p)
    && each_asked qs (λ u d e p. (eqb u t && eqb d 0) ⇒ S e p))

-- the roles after are these: there is no event or role past the limits, and of the roles within them each is tested
unfoldable pub roles_found : List ℕ → List Prioritized → List ℕ → Bool
roles_found rs ms rs' =
    (each_of ms (λ e p. ltb e EVENTS) && all_below (length rs) (λ i. ltb (get_or rs i 0) ROLES))
    && (all_below (length rs') (λ i. ltb (get_or rs' i 0) ROLES)
    && all_below ROLES (λ r. beq (roles_in rs' r) (roles_after (roles_in rs) (among ms) r)))

-- what waits after is in the rows after; and what waited for another instant, what is asked for with a delay and the heads of delayed triggers are what waits after
unfoldable pub waits_found : Sheet → List Requested → ℕ → List ℕ → List Waits → Events → List Waits → Bool
waits_found sh qs t rs ws S ws' =
    (each_waiting ws' (row_after sh (stream_of qs t) (state_of t rs ws) S)
    && each_waiting ws (λ k e p. not (eqb k (row t)) ⇒ rows_in ws' k e p))
    && (each_asked qs (λ u d e p. (eqb u t && ltb 0 d) ⇒ rows_in ws' (row (t + d)) e p)
    && all_below sh.trigger_count (λ i.
    (ltb 0 (sh.trigger i).delay && (allows (roles_in rs) (sh.trigger i) && met S S (sh.trigger i)))
    ⇒ rows_in ws' (row (t + (sh.trigger i).delay)) (sh.trigger i).head (sh.trigger i).priority))

-- instant t is as found, from these roles and what waits
unfoldable pub minute_found : Sheet → List Requested → ℕ → List ℕ → List Waits → Minute → Bool
minute_found sh qs t rs ws m =
    (givens_held sh qs t ws (among m.events) && self_caused sh (ready sh (roles_in rs)) (givens sh (stream_of qs t) (state_of t rs ws)) m.events)
    && (roles_found rs m.events m.roles && waits_found sh qs t rs ws (among m.events) m.waits)

-- each instant up to the last is
unfoldable pub minutes_found : Day → Bool
minutes_found d =
    let ms : List Minute = d.minutes in
    all_below (suc d.last) (λ t. minute_found (sheet_of_day d) d.requests t (roles_before ms t) (waits_before ms t) (minute_at ms t))

-- ---- a day: what it prints

-- what is found, as a trace
abbrev pub found_trace : List Minute → Trace
found_trace ms = trace_of (state_before ms) (λ t. among (minute_at ms t).events)

-- the lines of what is found are the output
unfoldable pub lines_found : Day → Bool
lines_found d = same (text d.output) (minute_lines (found_trace d.minutes) (suc d.last))

-- ---- THE TEST of an example

abbrev pub passes : Example → Bool
passes (each n f) = all_below n (λ i. passes (f i))
passes (due_at period first run t b) = beq (row_due (row_of period first run 0 0) t) b
passes (wins_over w l) =
    let S : Events = among (w ∷ l ∷ []) in
    let r : ℕ = w.event / 2 in
    (eqb l.event (conf w.event) && (not (blocked S w.event w.priority) && blocked S l.event l.priority))
    && (beq (nonblocked S S (enable r)) (odd w.event) && beq (nonblocked S S (disable r)) (not (odd w.event)))
passes (accepted roles rules levels) = good_order (rules_alone roles rules) && leveled (rules_alone roles rules) (listed levels)
passes (loops roles rules place back) = good_order (rules_alone roles rules) && loops_at (rules_alone roles rules) place back
passes (solved rules givens solution levels) =
    (each_of givens (among solution) && self_caused (rules_alone 1 rules) (ready (rules_alone 1 rules) no_roles) (among givens) solution)
    && leveled (rules_alone 1 rules) (listed levels)
passes (as_given rules) = all_below (length rules) (λ i. not (immediate (trigger_of (rule_at rules i))))
passes (never_fires events) = any_below (length events) (λ j. any_below (length events) (λ k. opposed (get_or events j 0) (get_or events k 0)))
passes (worked d) =
    (good_order (sheet_of_day d) && leveled (sheet_of_day d) (listed d.levels))
    && (open_found d && (minutes_found d && lines_found d))

-- THE TEST of a table
abbrev pub passing : List Example → Bool
passing [] = true
passing (x ∷ xs) = passes x && passing xs
