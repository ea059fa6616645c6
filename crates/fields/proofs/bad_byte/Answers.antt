-- `fields::bad_byte` meets its contract: each kind has its own fields.
-- Assumes nothing.
use mathlib.Core.Path.{ap, ◌∙◌}
use mathlib.Core.List.{List}
use Prim.Native.Nat.{ℕ, ◌+◌}
use lib.ListN.{take}
use Rattle.theory.specs.Below.{first_failing}
use Rattle.theory.specs.Sheet.{Periodic, periodic_tests, trigger_tests}
use Rattle.tables.specs.Layout.{periodic_at, trigger_at}
use Rattle.frames.specs.Frame.{bytes_of, sum}
use Rattle.fields.specs.Fields.{header_tests, PERIODIC_WIDTHS}
use Rattle.fields.specs.Laws.{bad_header, bad_periodic, bad_trigger, bad_none}
use Rattle.fields.proofs.bad_byte.Goals as goal

pub returns-then-k-eq-HEADER : goal.returns-then-k-eq-HEADER
returns-then-k-eq-HEADER c =
    let a = c.args in
    let e = c.from.ensures ∙ c.first_bad_header-i.ensures ∙ (λ i. first_failing (header_tests (c.byte_at.ensures i) (c.byte_at-then-k-eq-HEADER.ensures i))) in
    ap (λ (x : ℕ). 1 + x) e ∙ bad_header a.k a.roles (bytes_of a.line.now) c.if-k-eq-HEADER.true

pub returns-then-k-eq-PERIODIC : goal.returns-then-k-eq-PERIODIC
returns-then-k-eq-PERIODIC c =
    let a = c.args in
    let w = c.periodic_row.ensures ∙ ap (λ (l : List ℕ). periodic_at l 0) c.periodic_row-row.ensures in
    let e = c.from-then-k-eq-PERIODIC.ensures ∙ c.bytes_before.ensures ∙ ap (λ (i : ℕ). sum (take i PERIODIC_WIDTHS)) (c.first_bad_periodic-i.ensures ∙ ap (λ (x : Periodic). first_failing (periodic_tests a.roles x)) w) in
    ap (λ (x : ℕ). 1 + x) e ∙ bad_periodic a.k a.roles (bytes_of a.line.now) c.if-k-eq-PERIODIC.true

pub returns-then-k-eq-TRIGGER : goal.returns-then-k-eq-TRIGGER
returns-then-k-eq-TRIGGER c =
    let a = c.args in
    let e = c.from-then-k-eq-TRIGGER.ensures ∙ c.first_bad_trigger-i.ensures ∙ ap (λ (l : List ℕ). first_failing (trigger_tests a.roles (trigger_at l 0))) c.trigger_row-row.ensures in
    ap (λ (x : ℕ). 1 + x) e ∙ bad_trigger a.k a.roles (bytes_of a.line.now) c.if-k-eq-TRIGGER.true

pub returns : goal.returns
returns c =
    let a = c.args in
    bad_none a.k a.roles (bytes_of a.line.now) c.if-k-eq-HEADER.false c.if-k-eq-PERIODIC.false c.if-k-eq-TRIGGER.false
