-- `solver::by_keys` meets its contract. The loop's invariant: the key k is reached, all lower keys being done.
-- Assumes nothing.
use mathlib.Core.Path.{◌≡◌}
use Prim.Native.Nat.{◌-◌, ◌≤◌, ◌<◌}
use lib.ListN.{length}
use Rattle.theory.specs.Solving.{Reached}
use Rattle.tables.specs.Layout.{triggers_of}
use Rattle.tables.specs.Buffers.{events_of}
use Rattle.keys.specs.Keys.{KEYS, key_in}
use Rattle.solver.proofs.by_keys.Given as goal

abbrev pub invariant-loop-k : goal.invariant-loop-k
invariant-loop-k l =
    (length l.events ≡ length l.initial.events) × (0 < l.k) × (l.k ≤ KEYS) × Reached (triggers_of l.n l.triggers) (key_in l.triggers l.levels l.roles l.n) (events_of l.initial.events) l.k (events_of l.events)

abbrev pub decreases-loop-k : goal.decreases-loop-k
decreases-loop-k l =
    KEYS - l.k
