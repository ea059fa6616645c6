-- The turn of a trigger, a sweep over the triggers of one key and sweeps until nothing is added, in an events buffer.
-- Assumes nothing.
use Rattle.std.specs.Prelude.{◌≡◌, Bool, List, ℕ, ◌≤◌, ◌<◌}
use Rattle.theory.specs.Events.{Events}
use Rattle.theory.specs.Instant.{met}
use Rattle.theory.specs.Solving.{Turn, Swept, Keeps, Settled}
use Rattle.tables.specs.Layout.{trigger_at, triggers_of}
use Rattle.tables.specs.Buffers.{events_of}
use Rattle.keys.specs.Keys.{KEYS, Chained}

-- a key that triggers have which come to their turn
abbrev pub Keyed : ℕ → Type 0
Keyed k = (0 < k) × (k < KEYS)

-- the turn of trigger i of a table, from one buffer to another; `new` says whether something was added
abbrev pub TurnAt : (table : List ℕ) (i : ℕ) (before : List ℕ) (new : Bool) (after : List ℕ) → Type 0
TurnAt table i before new after =
    Turn (met (events_of before) (events_of before) (trigger_at table i)) (events_of before) (trigger_at table i).head (trigger_at table i).priority new (events_of after)

-- a sweep over those of key k, of n triggers in a table
abbrev pub SweptAt : (table : List ℕ) (n : ℕ) (key : ℕ → ℕ) (k : ℕ) (before : List ℕ) (new : Bool) (after : List ℕ) → Type 0
SweptAt table n key k before new after = Swept (triggers_of n table) key k (events_of before) n new (events_of after)

-- sweeps that keep the solver's invariant, and after which the n triggers of key k have nothing to add
abbrev pub SettledAt : (table : List ℕ) (n : ℕ) (key : ℕ → ℕ) (k : ℕ) (before after : List ℕ) → Type 0
SettledAt table n key k before after =
    Keeps (triggers_of n table) key k (events_of before) (events_of after) × Settled (triggers_of n table) key k (events_of after) n

-- the sweep along the chain of key k has come to trigger i
abbrev pub Sweeping : (table chains : List ℕ) (n k : ℕ) (X : Events) (i : ℕ) (new : Bool) (X' : Events) → Type 0
Sweeping table chains n k X i new X' = (key : ℕ → ℕ) → Chained key n 0 chains → (i ≤ n) × (i < n → key i ≡ k) × Swept (triggers_of n table) key k X i new X'
