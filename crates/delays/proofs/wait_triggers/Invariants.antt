-- `delays::wait_triggers` meets its contract. The loop's invariant: the entries of the first i triggers have joined.
-- Assumes nothing.
use mathlib.Core.Path.{◌≡◌}
use lib.ListN.{length}
use Rattle.tables.specs.Layout.{trigger_at}
use Rattle.tables.specs.Buffers.{roles_of, events_of}
use Rattle.masks.specs.Joins.{joins}
use Rattle.delays.specs.Delays.{trigger_entry}
use Rattle.delays.proofs.wait_triggers.Given as goal

abbrev pub invariant-loop-i : goal.invariant-loop-i
invariant-loop-i l =
    (length l.waiting ≡ length l.initial.waiting) × (l.waiting ≡ joins l.initial.waiting l.i (λ k. trigger_entry (roles_of l.roles) (events_of l.events) l.t (trigger_at l.triggers k)))
