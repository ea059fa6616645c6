-- `trigger_limits::first_bad_trigger` meets its contract: at each return all fields before the one that is told are within their limits (theory/Laws/FirstBad).
-- Assumes nothing.
use mathlib.Core.Path.{◌∙◌}
use mathlib.Core.Bool.{not}
use mathlib.Core.List.{List}
use Prim.Native.Nat.{ℕ, ◌+◌, ◌*◌, ◌≤◌}
use native.Mathlib.Omega.{arith}
use Rattle.theory.specs.Numbers.{BODY_EVENTS, BODY_CONDITIONS}
use Rattle.theory.specs.Below.{first_below}
use Rattle.theory.specs.Sheet.{Trigger, of_roles}
use Rattle.theory.proofs.Laws.FirstBad.{bad_event, bad_condition, bad_last}
use Rattle.tables.specs.Layout.{TRIGGER_BYTES, byte_at, trigger_from, trigger_at}
use Rattle.tables.proofs.Laws.{event_count_byte, condition_count_byte}
use Rattle.trigger_limits.proofs.first_bad_trigger.Goals as goal

pub returns-then-e-n : goal.returns-then-e-n
unfolding trigger_from
returns-then-e-n c =
    let a = c.args in
    let T : List ℕ = a.table.now in
    let g : Trigger = trigger_at T a.i in
    let n = c.trigger_byte-n.ensures ∙ event_count_byte T a.i in
    let m = c.trigger_byte-m.ensures ∙ condition_count_byte T a.i in
    let some : 1 ≤ g.event_count = omega (arith, c.if-n-lt1.false, n) in
    let few : g.event_count ≤ BODY_EVENTS = omega (arith, c.if-n-gt-BODY_EVENTS.false, n) in
    let fits : g.condition_count ≤ BODY_CONDITIONS = omega (arith, c.if-m-gt-BODY_CONDITIONS.false, m) in
    let row = c.row_index-at.ensures in
    let e = c.first_foreign-e.ensures ∙ (λ x. first_below (n x) (λ j. not (of_roles a.roles (byte_at T (TRIGGER_BYTES * row x + 2 + j))))) in
    bad_event a.roles g some few fits _ e (omega (arith, c.if-e-n.true, n))

pub returns-then-c-m : goal.returns-then-c-m
unfolding trigger_from
returns-then-c-m c =
    let a = c.args in
    let T : List ℕ = a.table.now in
    let g : Trigger = trigger_at T a.i in
    let n = c.trigger_byte-n.ensures ∙ event_count_byte T a.i in
    let m = c.trigger_byte-m.ensures ∙ condition_count_byte T a.i in
    let some : 1 ≤ g.event_count = omega (arith, c.if-n-lt1.false, n) in
    let few : g.event_count ≤ BODY_EVENTS = omega (arith, c.if-n-gt-BODY_EVENTS.false, n) in
    let fits : g.condition_count ≤ BODY_CONDITIONS = omega (arith, c.if-m-gt-BODY_CONDITIONS.false, m) in
    let row = c.row_index-at.ensures in
    let e = c.first_foreign-e.ensures ∙ (λ x. first_below (n x) (λ j. not (of_roles a.roles (byte_at T (TRIGGER_BYTES * row x + 2 + j))))) in
    let d = c.first_foreign-c.ensures ∙ (λ x. first_below (m x) (λ j. not (of_roles a.roles (byte_at T (TRIGGER_BYTES * row x + 6 + j))))) in
    omega (arith, n, bad_condition a.roles g some few fits _ e (omega (arith, c.if-e-n.false, n)) _ d (omega (arith, c.if-c-m.true, m)))

pub returns : goal.returns
unfolding trigger_from
returns c =
    let a = c.args in
    let T : List ℕ = a.table.now in
    let g : Trigger = trigger_at T a.i in
    let n = c.trigger_byte-n.ensures ∙ event_count_byte T a.i in
    let m = c.trigger_byte-m.ensures ∙ condition_count_byte T a.i in
    let some : 1 ≤ g.event_count = omega (arith, c.if-n-lt1.false, n) in
    let few : g.event_count ≤ BODY_EVENTS = omega (arith, c.if-n-gt-BODY_EVENTS.false, n) in
    let fits : g.condition_count ≤ BODY_CONDITIONS = omega (arith, c.if-m-gt-BODY_CONDITIONS.false, m) in
    let row = c.row_index-at.ensures in
    let e = c.first_foreign-e.ensures ∙ (λ x. first_below (n x) (λ j. not (of_roles a.roles (byte_at T (TRIGGER_BYTES * row x + 2 + j))))) in
    let d = c.first_foreign-c.ensures ∙ (λ x. first_below (m x) (λ j. not (of_roles a.roles (byte_at T (TRIGGER_BYTES * row x + 6 + j))))) in
    omega (arith, n, m, c.first_bad_head.ensures.0, bad_last a.roles g some few fits _ e (omega (arith, c.if-e-n.false, n)) _ d (omega (arith, c.if-c-m.false, m)))
