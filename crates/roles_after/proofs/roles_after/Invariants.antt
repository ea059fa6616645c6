-- `roles_after::roles_after` meets its contract. The loop's invariant: the roles below r have had their turn.
-- Assumes nothing.
use mathlib.Core.Path.{◌≡◌}
use Rattle.tables.specs.Buffers.{roles_of, events_of}
use Rattle.roles_after.specs.After.{roles_below}
use Rattle.roles_after.proofs.roles_after.Given as goal

abbrev pub invariant-loop-r : goal.invariant-loop-r
invariant-loop-r l =
    (l.after ≡ roles_below (roles_of l.roles) (events_of l.events) l.r)
