-- `turns::sweeps` meets its contract. The loop's invariant: the sweeps so far keep the solver's invariant. It ends, since a sweep that is not the last has added a member.
-- Assumes nothing.
use Prim.Native.Nat.{ℕ, ◌-◌}
use Rattle.theory.specs.Solving.{MEMBERS, size_of, Keeps}
use Rattle.tables.specs.Layout.{triggers_of}
use Rattle.tables.specs.Buffers.{events_of}
use Rattle.keys.specs.Keys.{Chained}
use Rattle.turns.proofs.sweeps.Given as goal

abbrev pub invariant-loop : goal.invariant-loop
invariant-loop l =
    (key : ℕ → ℕ) → Chained key l.n 0 l.chains → Keeps (triggers_of l.n l.triggers) key l.k (events_of l.initial.events) (events_of l.events)

abbrev pub decreases-loop : goal.decreases-loop
decreases-loop l =
    MEMBERS - size_of (events_of l.events)
