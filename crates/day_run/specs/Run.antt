-- A run of minutes of a day, with no word of what is printed of it: what was accepted of the input, and what stands before each instant.
-- Assumes nothing.
use Rattle.std.specs.Prelude.{◌≡◌, List, ℕ, ◌≤◌, length, drop}
use Rattle.theory.specs.Numbers.{EVENTS, WAITING_NUMBERS}
use Rattle.theory.specs.Events.{Events}
use Rattle.theory.specs.Model.{Trace, ExecutionModel, no_roles}
use Rattle.theory.specs.Box.{State, Run, SameState}
use Rattle.text.specs.Lines.{Lines, lines}
use Rattle.tables.specs.Layout.{PERIODIC_TABLE, TRIGGER_TABLE}
use Rattle.tables.specs.Lent.{Rules, sheet_in, Lent, state_in}
use Rattle.table_judge.specs.Judge.{judge_tables}
use Rattle.tape.specs.Tape.{asks_in}
use Rattle.tape.specs.Fine.{Fine}
use Rattle.answers.specs.Answers.{pass}

-- what was accepted of the input: tables of their lengths that the judge passes, as a step will ask, and a tape whose requests a step accepts
pub record GoodInput (R : Rules) (tape : List ℕ) : Type 0 where
  pub periodics : length R.tables.periodics ≡ PERIODIC_TABLE
  pub triggers : length R.tables.triggers ≡ TRIGGER_TABLE
  pub tables : judge_tables (sheet_in R) ≡ pass
  pub tape_fine : Fine R.counts.roles 0 0 (lines tape)

-- a run of the box with the tape's requests, of n instants from the fresh state on
abbrev pub RunOf : Rules → List ℕ → ℕ → (ℕ → State) → (ℕ → Events) → Type 0
RunOf R tape n state events = Run n no_roles (sheet_in R) (asks_in (lines tape)) state events

-- the paper's execution model of the sheet with the tape's requests
abbrev pub ModelOf : Rules → List ℕ → Trace → Type 0
ModelOf R tape tr = ExecutionModel no_roles (sheet_in R) (asks_in (lines tape)) tr

-- the tape from here on, before instant t: its requests are of t and later, and of those instants they are all that the whole tape has
pub record Cursor (roles t : ℕ) (whole ls : Lines) : Type 0 where
  pub fine : Fine roles t 0 ls
  pub same : (u d e p : ℕ) → t ≤ u → asks_in ls u d e p ≡ asks_in whole u d e p

-- BEFORE INSTANT n: what is lent to the step holds the state of any run of n instants, and from the byte `at` on the tape has the requests that are left.
-- (Any run: of a good input there is one, and its roles are the paper's: `standing_roles`, day_run/Laws/Minute.)
pub record Standing (R : Rules) (tape : List ℕ) (n : ℕ) (l : Lent) (at : ℕ) : Type 0 where
  pub instant : l.instant ≡ n
  pub waiting : length l.waiting ≡ WAITING_NUMBERS
  pub events : length l.events ≡ EVENTS
  pub cursor : Cursor R.counts.roles n (lines tape) (lines (drop at tape))
  pub same : (state : ℕ → State) (events : ℕ → Events) → RunOf R tape n state events → SameState (state_in l) (state n)
