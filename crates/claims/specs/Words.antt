-- Words of the demands that no crate below has as one: a sheet that reads in good order to its end, a step that is in order but for loops and requests, what is lent to the writer, a sheet that is read and
-- written, the equation of what is lent, the count of events, a refusal that is shown, and the examples that shut wrong boxes out.
-- Assumes nothing.
use Rattle.std.specs.Prelude.{◌≡◌, true, cond, List, [], ◌∷◌, ℕ, suc, ◌≤◌, ◌<◌, eqb, length, get_or, take, replicate, Err, Ok}
use Rattle.theory.specs.Numbers.{EVENTS, LAST_INSTANT, REQUESTS, SHEET_BYTES, WAITING_NUMBERS}
use Rattle.theory.specs.Below.{count_below}
use Rattle.theory.specs.Events.{Events, nonblocked}
use Rattle.theory.specs.Sheet.{GoodOrder}
use Rattle.theory.specs.Instant.{Solves}
use Rattle.theory.specs.Box.{givens}
use Rattle.answers.specs.declared.Name.TheVariants.{Frame, Check, Kind, Field}
use Rattle.answers.specs.declared.Refusal.{Refusal}
use Rattle.answers.specs.Answers.{answered, refusal, Verdict}
use Rattle.text.specs.Lines.{lines}
use Rattle.tables.specs.Layout.{PERIODIC_TABLE, TRIGGER_TABLE, padded}
use Rattle.tables.specs.Buffers.{roles_of}
use Rattle.tables.specs.Asked.{Request, Asked, asks}
use Rattle.line_readers.specs.Walks.{goes}
use Rattle.sheet_acts.specs.Acts.{Progress}
use Rattle.reader.specs.Lines.{reads}
use Rattle.reader.specs.Out.{read_outcome}
use Rattle.reader.specs.Reading.{start, sheet_lengths_fit, reading}
use Rattle.writer.specs.Outcome.{WriteOutcome}
use Rattle.tables.specs.Lent.{Rules, rules, sheet_in, Lent, state_in}
use Rattle.day_split.specs.Split.{sheet_part}
use Rattle.faulty_line.specs.Part.{faulty_part, shown, both_lines}
use Rattle.examples.specs.Written.{Requested}
use Rattle.examples.specs.Day.{text}
use Rattle.examples.specs.Table.{input, periodics, triggers}

-- A SHEET IN GOOD ORDER, as bytes: it passes LENGTH, and every line passes its tests up to and with the end; s is what was read of them.
pub record ReadsInOrder (sheet p t : List ℕ) (s : Progress) : Type 0 where
  pub lengths : sheet_lengths_fit (length sheet) (length p) (length t) ≡ true
  pub to_its_end : reads (goes start) (lines sheet) ≡ goes s

-- A STEP IN GOOD ORDER: what is lent has its exact lengths, the instant and the number of requests are within their limits, and the rows are in good order.
pub record Ordered (R : Rules) (q : Asked) (l : Lent) : Type 0 where
  pub periodics : length R.tables.periodics ≡ PERIODIC_TABLE
  pub triggers : length R.tables.triggers ≡ TRIGGER_TABLE
  pub waiting : length l.waiting ≡ WAITING_NUMBERS
  pub events : length l.events ≡ EVENTS
  pub instant : l.instant ≤ LAST_INSTANT
  pub requests : q.count ≤ REQUESTS
  pub rows : GoodOrder (sheet_in R)

-- WHAT IS LENT TO THE WRITER has its exact lengths: both tables, and the buffer.
pub record WriteLengths (R : Rules) (out : List ℕ) : Type 0 where
  pub periodics : length R.tables.periodics ≡ PERIODIC_TABLE
  pub triggers : length R.tables.triggers ≡ TRIGGER_TABLE
  pub buffer : length out ≡ SHEET_BYTES

-- SENT BACK: `text` is what the writer writes, into any buffer, of what the reader handed out of a sheet that it accepted.
pub record SentBack (sheet text : List ℕ) : Type 0 where
  pub lent_periodics : List ℕ
  pub lent_triggers : List ℕ
  pub handed : Rules
  pub read : reading sheet lent_periodics lent_triggers ≡ read_outcome (Ok handed.counts) handed.tables.periodics handed.tables.triggers
  pub before : List ℕ
  pub sent : ℕ
  pub after : List ℕ
  pub written : WriteOutcome handed before (Ok sent) after
  pub bytes : text ≡ take sent after

-- S solves the equation of what is lent: of its rows, of the roles before the instant, and of the givens.
abbrev pub SolvesFor : Rules → Asked → Lent → Events → Type 0
SolvesFor R q l S = Solves (sheet_in R) (roles_of l.roles) (givens (sheet_in R) (asks q) (state_in l)) S

-- how many events of 0 to 127 have a nonblocked member in S
abbrev pub count_in : Events → ℕ
count_in S = count_below EVENTS (nonblocked S S)

-- ---- the column

-- A REFUSAL IS SHOWN, of a sheet and a tape: its place is that of one of their lines, counted from 1 through the sheet and on through the tape; the line for the screen is that line; and the column lies in it
-- or one past its end.
pub record Shows (sheet tape : List ℕ) (r : Refusal) : Type 0 where
  pub number : ℕ
  pub at_place : r.place ≡ suc number
  pub there : number < length (both_lines sheet tape)
  pub is_line : shown (faulty_part sheet tape r) sheet tape ≡ get_or (both_lines sheet tape) number []
  pub within : r.column ≤ suc (length (get_or (both_lines sheet tape) number []))

-- THE END IS MISSING after so many lines: KIND at the next, without a column
abbrev pub EndMissing : ℕ → Refusal → Type 0
EndMissing n r = r ≡ refusal Kind (suc n)

-- a verdict without a column
abbrev pub NoColumn : Verdict → Type 0
NoColumn v = (answered v).column ≡ 0

-- ---- examples

-- lent tables of zeros
abbrev pub no_periodics : List ℕ
no_periodics = replicate PERIODIC_TABLE 0

abbrev pub no_triggers : List ℕ
no_triggers = replicate TRIGGER_TABLE 0

-- document 01's third example as a sheet: one role; enable 0 gives 5:disable 0 with delay 0; no periodic row and one trigger
abbrev pub looped : List ℕ
looped = text ("100101EE" ∷ "30010001000500C9" ∷ "F00000010F" ∷ [])

-- document 01's worked input: the bytes of its sheet, and what the reader hands out of them, as it is lent to a step
abbrev pub worked_sheet : List ℕ
worked_sheet = sheet_part (text input.input)

abbrev pub worked : Rules
worked = rules (record { roles = 3; periodics = 1; triggers = 2 }) (padded PERIODIC_TABLE periodics) (padded TRIGGER_TABLE triggers)

-- the requests of instant t among these, as they are lent to a step
abbrev pub lent_at : ℕ → List Requested → List Request
lent_at t [] = []
lent_at t (q ∷ qs) = cond (eqb q.instant t) (record { event = q.what.event; priority = q.what.priority; delay = q.delay } ∷ lent_at t qs) (lent_at t qs)

-- the requests of its tape, instant by instant
abbrev pub asked : ℕ → Asked
asked t = record { count = length (lent_at t input.requests); request = λ k. get_or (lent_at t input.requests) k (record { event = 0; priority = 0; delay = 0 }) }

-- sheets that were mistyped, and the refusal of each: a letter O for a zero; a line end that was forgotten; a wrong check; an odd line; a bad character in an odd line; an empty line; a periodic row whose first minute is not below its period, and whose event is of no role; a trigger whose second condition is of no role
abbrev pub mistyped : List (List ℕ × Refusal)
mistyped =
    (text ("1O0103EC" ∷ []), record { name = Frame; place = 1; column = 2 })
    ∷ (take 8 (text ("100103EC" ∷ [])), record { name = Frame; place = 1; column = 9 })
    ∷ (text ("100103ED" ∷ []), record { name = Check; place = 1; column = 7 })
    ∷ (text ("100103EC" ∷ "F00" ∷ []), record { name = Frame; place = 2; column = 4 })
    ∷ (text ("100103EC" ∷ "F.0" ∷ []), record { name = Frame; place = 2; column = 2 })
    ∷ (text ("100103EC" ∷ "" ∷ "F000000010" ∷ []), record { name = Frame; place = 2; column = 1 })
    ∷ (text ("100103EC" ∷ "2000000000FFFFFFFF05A005A000010F0486" ∷ []), record { name = Field; place = 2; column = 23 })
    ∷ (text ("100103EC" ∷ "300102040206040000BD" ∷ []), record { name = Field; place = 2; column = 11 })
    ∷ []

-- each of these sheets is refused so
abbrev pub EachRefused : List (List ℕ × Refusal) → Type 0
EachRefused [] = Unit {0}
EachRefused (x ∷ xs) = (reading x.0 no_periodics no_triggers ≡ read_outcome (Err x.1) no_periodics no_triggers) × EachRefused xs
