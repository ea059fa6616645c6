-- How an example is written down: prioritized events, rules in document 01's words, the sheets that have them, requests, and states.
-- Assumes nothing.
use Rattle.std.specs.Prelude.{false, ◌&&◌, ◌||◌, List, [], ◌∷◌, ℕ, ◌≤◌, eqb, length, get_or}
use Rattle.theory.specs.Below.{any_below}
use Rattle.theory.specs.Events.{Events, Roles}
use Rattle.theory.specs.Sheet.{Periodic, Trigger, Sheet, GoodOrder, is}
use Rattle.theory.specs.Model.{Stream}
use Rattle.theory.specs.Box.{State, row}

-- ---- prioritized events

-- An event with its priority.
pub record Prioritized : Type 0 where
  pub event : ℕ
  pub priority : ℕ

-- p ∶ e is document 01's p:e
infix 40 ◌∶◌
abbrev pub ◌∶◌ : ℕ → ℕ → Prioritized
p ∶ e = record { event = e; priority = p }

-- number i of a list
abbrev pub at : List Prioritized → ℕ → Prioritized
at ms i = get_or ms i (0 ∶ 0)

-- the first k of a list, as a set
unfoldable pub first : ℕ → List Prioritized → Events
first k ms e p = any_below k (λ i. is (at ms i).event (at ms i).priority e p)

-- all of a list and no others, as a set
abbrev pub among : List Prioritized → Events
among ms = first (length ms) ms

-- ---- rules and sheets

-- A trigger without conditions.
pub record Rule : Type 0 where
  pub body : List ℕ
  pub head : Prioritized
  pub delay : ℕ

-- the body events give the head after the delay
infix 35 ◌gives◌after◌
abbrev pub ◌gives◌after◌ : List ℕ → Prioritized → ℕ → Rule
body gives head after delay = record { body = body; head = head; delay = delay }

-- the trigger that it stands for
abbrev pub trigger_of : Rule → Trigger
trigger_of r =
    record {
      event_count = length r.body;
      condition_count = 0;
      event = λ j. get_or r.body j 0;
      condition = λ j. 0;
      head = r.head.event;
      priority = r.head.priority;
      delay = r.delay;
    }

-- rule i of a list
abbrev pub rule_at : List Rule → ℕ → Rule
rule_at rules i = get_or rules i ([] gives 0 ∶ 0 after 0)

-- What an example on rules leaves open of a sheet: the role count and the periodic rows.
pub record Rest : Type 0 where
  pub role_count : ℕ
  pub periodic_count : ℕ
  pub periodic : ℕ → Periodic

-- the sheet whose triggers are these rules
abbrev pub sheet_with : Rest → List Rule → Sheet
sheet_with rest rules =
    record {
      role_count = rest.role_count;
      periodic_count = rest.periodic_count;
      trigger_count = length rules;
      periodic = rest.periodic;
      trigger = λ i. trigger_of (rule_at rules i);
    }

-- The rest is in good order, and there are at least so many roles.
pub record Fits (roles : ℕ) (rest : Rest) : Type 0 where
  pub good : GoodOrder (sheet_with rest [])
  pub enough : roles ≤ rest.role_count

-- ---- requests

-- A prioritized event that is asked for at an instant, with a delay.
pub record Requested : Type 0 where
  pub what : Prioritized
  pub instant : ℕ
  pub delay : ℕ

-- m is asked for at instant t, after the delay
infix 35 ◌asked-at◌after◌
abbrev pub ◌asked-at◌after◌ : Prioritized → ℕ → ℕ → Requested
m asked-at t after delay = record { what = m; instant = t; delay = delay }

-- these requests and no others
unfoldable pub stream_of : List Requested → Stream
stream_of [] t d e p = false
stream_of (q ∷ qs) t d e p = (eqb q.instant t && (eqb q.delay d && is q.what.event q.what.priority e p)) || stream_of qs t d e p

-- ---- states

-- A prioritized event that waits for an instant.
pub record Waits : Type 0 where
  pub what : Prioritized
  pub instant : ℕ

-- m waits for instant u
infix 35 ◌waits-for◌
abbrev pub ◌waits-for◌ : Prioritized → ℕ → Waits
m waits-for u = record { what = m; instant = u }

-- number i of a list
abbrev pub wait_at : List Waits → ℕ → Waits
wait_at ws i = get_or ws i (0 ∶ 0 waits-for 0)

-- these roles and no others
unfoldable pub roles_in : List ℕ → Roles
roles_in rs r = any_below (length rs) (λ i. eqb (get_or rs i 0) r)

-- these wait, each in the row of its instant, and no others
unfoldable pub rows_in : List Waits → ℕ → Events
rows_in ws k e p = any_below (length ws) (λ i. eqb (row (wait_at ws i).instant) k && is (wait_at ws i).what.event (wait_at ws i).what.priority e p)

-- before instant t these roles are enabled, and these wait
abbrev pub state_of : ℕ → List ℕ → List Waits → State
state_of t rs ws = record { instant = t; roles = roles_in rs; waiting = rows_in ws }
