-- A run of steps that were all answered OK under one sheet, from the fresh state, as any caller of the step sees it (document 01, demand 2).
-- Assumes nothing.
use Rattle.std.specs.Prelude.{◌≡◌, true, ℕ, suc, ◌≤◌, ◌<◌, replicate}
use Rattle.theory.specs.Numbers.{WAITING_NUMBERS}
use Rattle.theory.specs.Instant.{request_fits}
use Rattle.theory.specs.Model.{Stream, Trace, ExecutionModel, no_roles}
use Rattle.tables.specs.Buffers.{roles_of, events_of}
use Rattle.tables.specs.Asked.{Asked, asks}
use Rattle.tables.specs.Lent.{Rules, sheet_in, Lent}
use Rattle.step.specs.Outcome.{Outcome}
use Rattle.tables.specs.Used.{SameRules}
use Rattle.answers.specs.Answers.{pass}

-- instant 0, no roles, all zeros; an events buffer may hold anything
pub record FreshLent (l : Lent) : Type 0 where
  pub instant : l.instant ≡ 0
  pub roles : l.roles ≡ 0
  pub waiting : l.waiting ≡ replicate WAITING_NUMBERS 0

-- the state is handed on; an events buffer may hold anything
pub record HandedOn (after before : Lent) : Type 0 where
  pub instant : before.instant ≡ after.instant
  pub roles : before.roles ≡ after.roles
  pub waiting : before.waiting ≡ after.waiting

-- n steps under one sheet, R: the tables and the requests of each, and what is lent before it and after. The tables are those of R in all that is used; what stands in unused places may
-- change from step to step.
pub record Steps (n : ℕ) (R : Rules) (tables : ℕ → Rules) (asked : ℕ → Asked) (before after : ℕ → Lent) : Type 0 where
  pub fresh : FreshLent (before 0)
  pub one_sheet : (t : ℕ) → t < n → SameRules R (tables t)
  pub ok : (t : ℕ) → t < n → Outcome (tables t) (asked t) (before t) pass (after t)
  pub on : (t : ℕ) → suc t < n → HandedOn (after t) (before (suc t))

-- A request stream that goes on from those requests: theirs in the first n instants, and within the limits in all later ones.
pub record GoesOn (n : ℕ) (R : Rules) (asked : ℕ → Asked) (RQ : Stream) : Type 0 where
  pub asked_first : (t d e p : ℕ) → t < n → RQ t d e p ≡ asks (asked t) d e p
  pub within : (t d e p : ℕ) → n ≤ t → RQ t d e p ≡ true → request_fits R.counts.roles d e p ≡ true

-- The steps agree with a trace: in the events handed out at each instant, and in the roles before and after it.
pub record Agrees (n : ℕ) (before after : ℕ → Lent) (tr : Trace) : Type 0 where
  pub events : (t : ℕ) → t < n → events_of (after t).events ≡ tr.EV t
  pub roles_before : (t : ℕ) → t < n → roles_of (before t).roles ≡ tr.ST t
  pub roles_after : (t : ℕ) → t < n → roles_of (after t).roles ≡ tr.ST (suc t)

-- THE RUN IS THE PAPER'S: there is exactly one canonical execution model of the stream, and the steps agree with it.
pub record IsPapers (n : ℕ) (R : Rules) (before after : ℕ → Lent) (RQ : Stream) : Type 0 where
  pub model : Trace
  pub canonical : ExecutionModel no_roles (sheet_in R) RQ model
  pub only : (other : Trace) → ExecutionModel no_roles (sheet_in R) RQ other → other ≡ model
  pub agrees : Agrees n before after model
