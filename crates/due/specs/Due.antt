-- The due periodic events as entries of an events buffer.
-- Assumes nothing.
use Rattle.std.specs.Prelude.{List, ℕ}
use Rattle.theory.specs.Sheet.{Periodic, row_due}
use Rattle.tables.specs.Layout.{periodic_at}
use Rattle.masks.specs.Joins.{Entry}

-- what a periodic row adds at the instant t: its event with its priority, where it is due
abbrev pub due_entry : Periodic → ℕ → Entry
due_entry w t = record { on = row_due w t; at = w.event; priority = w.priority }

-- row i of a periodic table at the instant t
abbrev pub due_at : List ℕ → ℕ → ℕ → Entry
due_at table t i = due_entry (periodic_at table i) t
