-- `turns::sweep` meets its contract. The loop's invariant: the sweep has come to trigger i.
-- Assumes nothing.
use Prim.Native.Nat.{◌-◌}
use Rattle.tables.specs.Buffers.{events_of}
use Rattle.turns.specs.Turns.{Sweeping}
use Rattle.turns.proofs.sweep.Given as goal

abbrev pub invariant-loop-i : goal.invariant-loop-i
invariant-loop-i l =
    Sweeping l.triggers l.chains l.n l.k (events_of l.initial.events) l.i l.changed (events_of l.events)

abbrev pub decreases-loop-i : goal.decreases-loop-i
decreases-loop-i l =
    l.n - l.i
