-- When two lent tables are the same in all that is used (document 01, 'What comes back'): the step ignores unused rows, and the event and condition places of a trigger past its counts, and so does the writer.
-- Assumes nothing.
use Rattle.std.specs.Prelude.{◌≡◌, List, ℕ, ◌+◌, ◌*◌, ◌≤◌, ◌<◌, length}
use Rattle.theory.specs.Sheet.{Trigger}
use Rattle.tables.specs.Layout.{PERIODIC_BYTES, TRIGGER_BYTES, byte_at, trigger_at}
use Rattle.tables.specs.Lent.{Rules}

-- The same periodic table: its length, and the bytes of its first n rows.
pub record SamePeriodics (n : ℕ) (p p' : List ℕ) : Type 0 where
  pub size : length p ≡ length p'
  pub bytes : (k : ℕ) → k < PERIODIC_BYTES * n → byte_at p k ≡ byte_at p' k

-- Byte k of a trigger is used: where it is an event place, 2 to 5, it is below the event count, and where it is a condition place, 6 to 9, below the condition count.
abbrev pub UsedByte : Trigger → ℕ → Type 0
UsedByte g k = (2 ≤ k → k < 6 → k < 2 + g.event_count) × (6 ≤ k → k < 10 → k < 6 + g.condition_count)

-- The same trigger table: its length, and the used bytes of its first n rows.
pub record SameTriggers (n : ℕ) (t t' : List ℕ) : Type 0 where
  pub size : length t ≡ length t'
  pub bytes : (i k : ℕ) → i < n → k < TRIGGER_BYTES → UsedByte (trigger_at t i) k → byte_at t (TRIGGER_BYTES * i + k) ≡ byte_at t' (TRIGGER_BYTES * i + k)

-- THE SAME SHEET: the same counts, and tables that are the same in all that is used. What stands in unused rows, and in the places of a trigger past its counts, is anything.
pub record SameRules (R R' : Rules) : Type 0 where
  pub counts : R.counts ≡ R'.counts
  pub periodics : SamePeriodics R.counts.periodics R.tables.periodics R'.tables.periodics
  pub triggers : SameTriggers R.counts.triggers R.tables.triggers R'.tables.triggers
