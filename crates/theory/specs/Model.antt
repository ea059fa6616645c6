-- The paper's execution model over all instants t ≥ 0: document 004, definitions 3.5 and 3.7 to 3.9. No buffer and no box is in it.
-- Assumes nothing.
use Rattle.std.specs.Prelude.{◌≡◌, true, false, ℕ, suc, ◌-◌, ◌≤◌, ◌<◌}
use Rattle.theory.specs.Events.{Events, Roles}
use Rattle.theory.specs.Sheet.{Sheet, due}
use Rattle.theory.specs.Instant.{Requests, allows, met, roles_after}

-- A request stream (3.5): `RQ t d e p ≡ true` says that 'p:e after d' is in RQ(t). The paper's priorities are document 01's, 0 to 15.
abbrev pub Stream : Type 0
Stream = ℕ → Requests

-- A pair of sequences (3.7): EV(t) is the set of events at t, ST(t) the set of enabled roles. (Not yet the paper's trace: what binds ST to EV is `roles` of `ExecutionModel`.)
pub record Trace : Type 0 where
  pub EV : ℕ → Events
  pub ST : ℕ → Roles

-- The conditions 1 to 3 of definition 3.8, of a family X of sets, one for each instant.
pub record Meets (sh : Sheet) (RQ : Stream) (tr : Trace) (X : ℕ → Events) : Type 0 where
  pub periodic : (t e p : ℕ) → due sh t e p ≡ true → X t e p ≡ true
  pub request : (t d e p : ℕ) → d ≤ t → RQ (t - d) d e p ≡ true → X t e p ≡ true
  pub trigger : (t i : ℕ) → i < sh.trigger_count → (sh.trigger i).delay ≤ t
      → allows (tr.ST (t - (sh.trigger i).delay)) (sh.trigger i) ≡ true
      → met (tr.EV (t - (sh.trigger i).delay)) (X (t - (sh.trigger i).delay)) (sh.trigger i) ≡ true
      → X t (sh.trigger i).head (sh.trigger i).priority ≡ true

-- X is the family Caused(t) of definition 3.8: the least that meets them.
pub record IsCausedIn (sh : Sheet) (RQ : Stream) (tr : Trace) (X : ℕ → Events) : Type 0 where
  pub meets : Meets sh RQ tr X
  pub least : (Y : ℕ → Events) → Meets sh RQ tr Y → (t e p : ℕ) → X t e p ≡ true → Y t e p ≡ true

-- An execution model (3.9) that starts with the roles `start`. The constraint on ST is that of definition 3.7, and EV(t) = Caused(t) at every t.
pub record ExecutionModel (start : Roles) (sh : Sheet) (RQ : Stream) (tr : Trace) : Type 0 where
  pub starts : (r : ℕ) → tr.ST 0 r ≡ start r
  pub roles : (t r : ℕ) → tr.ST (suc t) r ≡ roles_after (tr.ST t) (tr.EV t) r
  pub events : IsCausedIn sh RQ tr tr.EV

-- no roles: a canonical model, whose ST(0) is empty, is an `ExecutionModel no_roles`
abbrev pub no_roles : Roles
no_roles r = false
