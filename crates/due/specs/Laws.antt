-- A row's entry, made of what the code read.
-- Assumes nothing.
use Rattle.std.specs.Prelude.{◌≡◌, Bool, ℕ}
use Rattle.std.proofs.Common.{ap}
use Rattle.theory.specs.Sheet.{Periodic, row_due}
use Rattle.masks.specs.Joins.{Entry}
use Rattle.due.specs.Due.{due_entry}

pub entry_is : (w w' : Periodic) (t : ℕ) (on : Bool) (at : ℕ) → w ≡ w' → on ≡ row_due w t → at ≡ w.event → ◌≡◌ {A = Entry} (record { on = on; at = at; priority = w.priority }) (due_entry w' t)
entry_is w w' t on at e o a = rw (o, a) (ap (λ (v : Periodic). due_entry v t) e)
