-- What is lent to a step, but for its requests (`Asked`). To be read: the counts and the tables (`Rules`), which the writer is lent too. To be changed: the state and the events buffer (`Lent`). Document 01,
-- 'What comes back'.
-- Assumes nothing.
use Rattle.std.specs.Prelude.{List, ℕ}
use Rattle.theory.specs.Sheet.{Sheet}
use Rattle.theory.specs.Box.{State}
use Rattle.tables.specs.declared.Counts.{Counts}
use Rattle.tables.specs.declared.Rules.{Rules as Given}
use Rattle.tables.specs.Layout.{sheet_of}
use Rattle.tables.specs.Buffers.{roles_of, waiting_of}

-- the two tables, which the reader fills, and a step and the writer read
pub record Tables : Type 0 where
  pub periodics : List ℕ
  pub triggers : List ℕ

abbrev pub tables_of : List ℕ → List ℕ → Tables
tables_of p t = record { periodics = p; triggers = t }

-- ---- to be read

-- A sheet as it is lent to be read: the role count and how many rows of each table are used, and the tables.
pub record Rules : Type 0 where
  pub counts : Counts
  pub tables : Tables

abbrev pub rules : Counts → List ℕ → List ℕ → Rules
rules n p t = record { counts = n; tables = tables_of p t }

-- the same of the code's own record, which holds both tables as lent slices
abbrev pub rules_of : Given → Rules
rules_of g = rules g.counts g.periodics.now g.triggers.now

-- the sheet that they stand for; unused rows, and the places of a trigger past its counts, are in no rule about it
abbrev pub sheet_in : Rules → Sheet
sheet_in R = sheet_of R.counts.roles R.counts.periodics R.counts.triggers R.tables.periodics R.tables.triggers

-- ---- to be changed

-- All that a step can change: the next instant, the enabled roles, the waiting buffer and the events buffer.
pub record Lent : Type 0 where
  pub instant : ℕ
  pub roles : ℕ
  pub waiting : List ℕ
  pub events : List ℕ

abbrev pub lent : ℕ → ℕ → List ℕ → List ℕ → Lent
lent t r w e = record { instant = t; roles = r; waiting = w; events = e }

-- the state in them
abbrev pub state_in : Lent → State
state_in l = record { instant = l.instant; roles = roles_of l.roles; waiting = waiting_of l.waiting }
