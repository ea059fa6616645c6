-- The contract of this crate's public function leaves one possible content of all that is lent wherever the solver promises a solution: any two that it allows are equal.
-- (Elsewhere, which no step comes to, the events buffer is open, and what follows from it.)
-- Assumes nothing.
use Rattle.std.specs.Prelude.{◌≡◌, List, ℕ, length}
use Rattle.std.proofs.Common.{sym, ap, ◌∙◌}
use Rattle.theory.specs.Numbers.{ROLES, EVENTS}
use Rattle.theory.specs.Sheet.{GoodOrder}
use Rattle.theory.specs.Graph.{Levels}
use Rattle.theory.proofs.Laws.Exact.{exact}
use Rattle.tables.specs.Layout.{byte_at, sheet_of}
use Rattle.tables.specs.Buffers.{roles_of, events_of}
use Rattle.tables.specs.Asked.{Asked}
use Rattle.tables.specs.Lent.{Rules, Lent}
use Rattle.masks.specs.Laws.Joins.{writes_size}
use Rattle.masks.specs.Laws.Fill.{joins_size}
use Rattle.solver.specs.Laws.Exact.{solve_exact}
use Rattle.roles_after.specs.After.{roles_below}
use Rattle.instant.specs.Acted.{filled, refilled, Acted}

-- whatever the role count for which the rows are in good order and the levels meet the rule
pub act_exact : (R : Rules) (q : Asked) (levels : List ℕ) (before a a' : Lent) (role_count : ℕ) → length before.events ≡ EVENTS
    → GoodOrder (sheet_of role_count R.counts.periodics R.counts.triggers R.tables.periodics R.tables.triggers)
    → Levels (sheet_of role_count R.counts.periodics R.counts.triggers R.tables.periodics R.tables.triggers) (byte_at levels)
    → Acted R q levels before a → Acted R q levels before a' → a ≡ a'
act_exact R q levels before a a' role_count size good rule x y =
    let ST = roles_of before.roles in
    let full : List ℕ = filled before.events before.waiting R.tables.periodics R.counts.periodics q before.instant in
    let n : length full ≡ EVENTS = joins_size _ _ _ ∙ (joins_size _ _ _ ∙ (writes_size before.events 0 EVENTS _ ∙ size)) in
    let e : a.events ≡ a'.events
    = solve_exact levels R.tables.triggers R.counts.triggers before.roles full a.events a'.events role_count R.counts.periodics R.tables.periodics n good rule x.solved y.solved in
    let t : a.instant ≡ a'.instant = exact x.next y.next in
    let r : a.roles ≡ a'.roles = x.roles ∙ (ap (λ (b : List ℕ). roles_below ST (events_of b) ROLES) e ∙ sym y.roles) in
    let w : a.waiting ≡ a'.waiting
    = x.waits ∙ (ap (λ (b : List ℕ). refilled before.waiting (events_of b) R.tables.triggers R.counts.triggers q ST before.instant) e ∙ sym y.waits) in
    λ k. record { instant = t k; roles = r k; waiting = w k; events = e k }
