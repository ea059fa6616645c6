-- Laws of what comes to wait: an entry as the code makes it, and whether there is a delay.
-- Assumes nothing.
use Rattle.std.specs.Prelude.{◌≡◌, refl, Bool, true, false, ◌&&◌, ℕ, ◌+◌, ltb}
use Rattle.std.proofs.Common.{arith, lt-ltb, le-ltb}
use Rattle.theory.specs.Events.{Events, Roles}
use Rattle.theory.specs.Sheet.{Trigger}
use Rattle.theory.specs.Instant.{allows, met}
use Rattle.masks.specs.Joins.{Entry}
use Rattle.waiting.specs.Waiting.{place_of}
use Rattle.delays.specs.Delays.{trigger_entry}

-- a trigger's entry, made of what the code read
pub trigger_entry_lem : (ST : Roles) (S : Events) (t : ℕ) (g : Trigger) (on : Bool) (at d e p : ℕ)
    → on ≡ (ltb 0 g.delay && (allows ST g && met S S g)) → at ≡ place_of (t + d) e → d ≡ g.delay → e ≡ g.head → p ≡ g.priority
    → ◌≡◌ {A = Entry} (record { on = on; at = at; priority = p }) (trigger_entry ST S t g)
trigger_entry_lem ST S t g on at d e p o a h k m = rw (o, a, h, k, m) refl

-- whether a trigger has a delay
pub delay_none : (d x : ℕ) → d ≡ x → d ≡ 0 → ltb 0 x ≡ false
delay_none d x e h = le-ltb 0 x (omega arith)

pub delay_some : (d x : ℕ) → d ≡ x → ¬ (d ≡ 0) → ltb 0 x ≡ true
delay_some d x e h = lt-ltb 0 x (omega arith)
