-- The instant's own work, part after part, as the code does it.
-- Assumes nothing.
use Rattle.std.specs.Prelude.{◌≡◌, List, ℕ, ◌+◌, ◌^◌, ◌<◌}
use Rattle.theory.specs.Numbers.{ROLES}
use Rattle.theory.specs.Events.{Events, Roles}
use Rattle.tables.specs.Layout.{trigger_at}
use Rattle.tables.specs.Buffers.{roles_of, events_of}
use Rattle.tables.specs.Asked.{Asked}
use Rattle.tables.specs.Lent.{Rules, Lent}
use Rattle.masks.specs.Joins.{joins}
use Rattle.due.specs.Due.{due_at}
use Rattle.solver.specs.Solved.{Solved}
use Rattle.waiting.specs.Waiting.{copied, cleared}
use Rattle.delays.specs.Delays.{trigger_entry}
use Rattle.roles_after.specs.After.{roles_below}
use Rattle.asked.specs.Adds.{given_entry, wait_entry}

-- the events buffer before it is solved: the row of t, then the due events of the first n periodic rows, then the requests of delay 0
abbrev pub filled : List ℕ → List ℕ → List ℕ → ℕ → Asked → ℕ → List ℕ
filled events waiting periodics n q t = joins (joins (copied events waiting t) n (due_at periodics t)) q.count (λ k. given_entry (q.request k))

-- the waiting buffer after the instant: the row of t cleared, then the requests with a delay, then the heads of the first n triggers with a delay
abbrev pub refilled : List ℕ → Events → List ℕ → ℕ → Asked → Roles → ℕ → List ℕ
refilled waiting S triggers n q ST t = joins (joins (cleared waiting t) q.count (λ k. wait_entry t (q.request k))) n (λ i. trigger_entry ST S t (trigger_at triggers i))

-- All of it, from what is lent before to what is lent after.
pub record Acted (R : Rules) (q : Asked) (levels : List ℕ) (before after : Lent) : Type 0 where
  pub wide : before.roles < 2 ^ 64
  pub solved : Solved levels R.tables.triggers R.counts.triggers before.roles
      (filled before.events before.waiting R.tables.periodics R.counts.periodics q before.instant)
      after.events
  pub waits : after.waiting ≡ refilled before.waiting (events_of after.events) R.tables.triggers R.counts.triggers q (roles_of before.roles) before.instant
  pub roles : after.roles ≡ roles_below (roles_of before.roles) (events_of after.events) ROLES
  pub next : after.instant ≡ before.instant + 1
