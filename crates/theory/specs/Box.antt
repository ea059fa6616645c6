-- The box on the model's level: its state, one step, and a run (document 01, 'Numbers' and 'One instant'). Refusals, the last instant among them, and buffers come with the crates above.
-- Assumes nothing.
use Rattle.std.specs.Prelude.{◌≡◌, true, false, not, ◌&&◌, ◌||◌, ℕ, suc, ◌+◌, ◌%◌, ◌≤◌, ◌<◌, eqb}
use Rattle.theory.specs.Numbers.{WAITING_ROWS}
use Rattle.theory.specs.Below.{any_below}
use Rattle.theory.specs.Events.{Events, Roles}
use Rattle.theory.specs.Sheet.{Sheet, due}
use Rattle.theory.specs.Instant.{Requests, request_fits, Solves, waits_for, roles_after}
use Rattle.theory.specs.Model.{Stream, Trace}

-- The state before an instant: which instant is next, the enabled roles, and the rows of waiting events, of which those from 61 on are never read.
pub record State : Type 0 where
  pub instant : ℕ
  pub roles : Roles
  pub waiting : ℕ → Events

-- row (u mod 61) holds the events waiting for instant u
abbrev pub row : ℕ → ℕ
row u = u % WAITING_ROWS

-- The givens: the due periodic events, the events waiting for this instant, and the requests with delay 0.
unfoldable pub givens : Sheet → Requests → State → Events
givens sh asks st e p = due sh st.instant e p || (st.waiting (row st.instant) e p || asks 0 e p)

-- Row k after the instant: its own row is cleared, the others are kept, and what comes to wait for d instants later joins the row of that instant.
unfoldable pub row_after : Sheet → Requests → State → Events → ℕ → Events
row_after sh asks st S k e p =
    (not (eqb k (row st.instant)) && st.waiting k e p)
    || any_below WAITING_ROWS (λ d. eqb (row (st.instant + d)) k && waits_for sh asks st.roles S d e p)

-- One step of the box: from st, with the events S, to st'. What document 01 accepts is a step of a sheet in good order without a loop, with requests within their limits.
pub record Step (sh : Sheet) (asks : Requests) (st : State) (S : Events) (st' : State) : Type 0 where
  pub solves : Solves sh st.roles (givens sh asks st) S
  pub instant : st'.instant ≡ suc st.instant
  pub roles : (r : ℕ) → st'.roles r ≡ roles_after st.roles S r
  pub waiting : (k e p : ℕ) → k < WAITING_ROWS → st'.waiting k e p ≡ row_after sh asks st S k e p

-- Instant 0, the roles `start`, and nothing waits. With no roles this is document 01's fresh state.
pub record Fresh (start : Roles) (st : State) : Type 0 where
  pub instant : st.instant ≡ 0
  pub roles : (r : ℕ) → st.roles r ≡ start r
  pub waiting : (k e p : ℕ) → k < WAITING_ROWS → st.waiting k e p ≡ false

-- A run of n steps from there: the state before each and after the last, and the events of each. (From any other state, `Step` says all.)
pub record Run (n : ℕ) (start : Roles) (sh : Sheet) (RQ : Stream) (state : ℕ → State) (events : ℕ → Events) : Type 0 where
  pub fresh : Fresh start (state 0)
  pub step : (t : ℕ) → t < n → Step sh (RQ t) (state t) (events t) (state (suc t))

-- Every request is within its limits. (How many there are of one instant is no matter of the model.)
abbrev pub Within : Sheet → Stream → Type 0
Within sh RQ = (t d e p : ℕ) → RQ t d e p ≡ true → request_fits sh.role_count d e p ≡ true

-- ---- what the theorems say of runs

-- the states and events of a box that steps on for ever
abbrev pub trace_of : (ℕ → State) → (ℕ → Events) → Trace
trace_of state events = record { EV = events; ST = λ t. (state t).roles }

-- the same instant, roles and rows
pub record SameState (a b : State) : Type 0 where
  pub instant : a.instant ≡ b.instant
  pub roles : a.roles ≡ b.roles
  pub waiting : (k e p : ℕ) → k < WAITING_ROWS → a.waiting k e p ≡ b.waiting k e p

-- a run of n steps has the events of the trace at each instant stepped, and its roles up to and with those after the last
pub record Follows (n : ℕ) (state : ℕ → State) (events : ℕ → Events) (tr : Trace) : Type 0 where
  pub same_events : (t : ℕ) → t < n → events t ≡ tr.EV t
  pub same_roles : (t : ℕ) → t ≤ n → (state t).roles ≡ tr.ST t
