-- A day's input and output as they are printed, and what an example says of it through the day's own definitions: what it opens, each of its instants, and what it prints.
-- Assumes nothing.
use Rattle.std.specs.Prelude.{◌≡◌, List, [], ◌∷◌, ◌++◌, ℕ, zero, suc, ◌≤◌, get_or, Ok}
use Prim.Native.Char.{code}
use Prim.Native.String.{String, [] as «end», ◌∷◌ as ◌then◌}
use Rattle.theory.specs.Events.{Events}
use Rattle.theory.specs.Sheet.{Sheet}
use Rattle.theory.specs.Instant.{Requests, Solves}
use Rattle.theory.specs.Model.{no_roles}
use Rattle.theory.specs.Box.{State, givens, Step, Fresh, SameState}
use Rattle.tables.specs.Layout.{PERIODIC_TABLE, TRIGGER_TABLE, padded}
use Rattle.tables.specs.Lent.{rules, sheet_in}
use Rattle.text.specs.Lines.{LINE_END}
use Rattle.tables.specs.declared.Counts.{Counts}
use Rattle.reader.specs.Out.{read_outcome}
use Rattle.day_input.specs.Opening.{opens, sheet_reading, opening}
use Rattle.day_print.specs.Day.{Prints}
use Rattle.examples.specs.Written.{Prioritized, among, Requested, stream_of, Waits, state_of}

-- ---- lines

-- the characters of a line
abbrev pub characters : String → List ℕ
characters «end» = []
characters (c then l) = code c ∷ characters l

-- the bytes of lines, each ended by byte 0A
abbrev pub text : List String → List ℕ
text [] = []
text (l ∷ ls) = characters l ++ (LINE_END ∷ text ls)

-- ---- what an example of a day says

-- What is found at an instant: its events, the roles after it, and what waits after it.
pub record Minute : Type 0 where
  pub events : List Prioritized
  pub roles : List ℕ
  pub waits : List Waits

-- The lines of the input; what the reader hands out, and the rows that its tables hold; levels of the events from 0 on, by which there is no loop; the requests of the tape and the last
-- instant; the instants from 0 on; and the lines of the output.
pub record Day : Type 0 where
  pub input : List String
  pub read : Counts
  pub periodics : List ℕ
  pub triggers : List ℕ
  pub levels : List ℕ
  pub requests : List Requested
  pub last : ℕ
  pub minutes : List Minute
  pub output : List String

-- the sheet of a day
abbrev pub sheet_of_day : Day → Sheet
sheet_of_day d = sheet_in (rules d.read (padded PERIODIC_TABLE d.periodics) (padded TRIGGER_TABLE d.triggers))

-- what is found at instant t
abbrev pub minute_at : List Minute → ℕ → Minute
minute_at ms t = get_or ms t (record { events = []; roles = []; waits = [] })

-- the roles before instant t: none at first, then those after the instant before it
abbrev pub roles_before : List Minute → ℕ → List ℕ
roles_before ms zero = []
roles_before ms (suc t) = (minute_at ms t).roles

-- what waits before instant t, likewise
abbrev pub waits_before : List Minute → ℕ → List Waits
waits_before ms zero = []
waits_before ms (suc t) = (minute_at ms t).waits

-- the state before instant t
abbrev pub state_before : List Minute → ℕ → State
state_before ms t = state_of t (roles_before ms t) (waits_before ms t)

-- A step from `before` has the events S and leads to `after`; S is the only solution, and any step from there is this one.
pub record OneStep (sh : Sheet) (asks : Requests) (before : State) (S : Events) (after : State) : Type 0 where
  pub step : Step sh asks before S after
  pub only : (T : Events) → Solves sh before.roles (givens sh asks before) T → T ≡ S
  pub same : (st : State) → SameState st before → (T : Events) (st' : State) → Step sh asks st T st' → (T ≡ S) × SameState st' after

-- instant t is as found
abbrev pub Found : Day → ℕ → Type 0
Found d t = OneStep (sheet_of_day d) (stream_of d.requests t) (state_before d.minutes t) (among (minute_at d.minutes t).events) (state_before d.minutes (suc t))

-- The bytes of the input's sheet are read with success into tables of zeros; the input opens this sheet, exactly these requests and this last instant; from the fresh state on each instant up to
-- the last is as found; and the input prints exactly the bytes of the output.
pub record Worked (d : Day) : Type 0 where
  pub read : sheet_reading (text d.input) ≡ read_outcome (Ok d.read) (padded PERIODIC_TABLE d.periodics) (padded TRIGGER_TABLE d.triggers)
  pub opened : opening (text d.input) ≡ opens (sheet_of_day d) (stream_of d.requests) d.last
  pub fresh : Fresh no_roles (state_before d.minutes 0)
  pub minutes : (t : ℕ) → t ≤ d.last → Found d t
  pub printed : Prints (opening (text d.input)) (text d.output)
