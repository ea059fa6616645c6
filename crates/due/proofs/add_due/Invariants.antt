-- `due::add_due` meets its contract. The loop's invariant: the entries of the first i rows have joined.
-- Assumes nothing.
use mathlib.Core.Path.{◌≡◌}
use lib.ListN.{length}
use Rattle.masks.specs.Joins.{joins}
use Rattle.due.specs.Due.{due_at}
use Rattle.due.proofs.add_due.Given as goal

abbrev pub invariant-loop-i : goal.invariant-loop-i
invariant-loop-i l =
    (length l.events ≡ length l.initial.events) × (l.events ≡ joins l.initial.events l.i (due_at l.periodics l.t))
