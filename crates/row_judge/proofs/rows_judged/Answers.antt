-- `row_judge::rows_judged` meets its contract: its tests, in their order, are the definition's. Where the rows are few, their number is of 16 bits.
-- Assumes nothing.
use mathlib.Core.Path.{sym, ◌∙◌}
use native.Mathlib.Omega.{arith}
use borrow.Author.Tests.{not-true, not-false}
use Rattle.theory.specs.Numbers.{PERIODIC_ROWS, TRIGGER_ROWS}
use Rattle.tables.specs.Layout.{sheet_of}
use Rattle.tables.specs.Lent.{rules_of, sheet_in}
use Rattle.row_judge.specs.Judge.{few_rows, roles_fit}
use Rattle.row_judge.proofs.Laws.{limits_say, rows_many, rows_roles, rows_unfit, rows_fit}
use Rattle.row_judge.proofs.rows_judged.Goals as goal

pub returns-then-not-few_rows : goal.returns-then-not-few_rows
unfolding sheet_of few_rows
returns-then-not-few_rows c =
    let a = c.args in
    c.refuse.ensures ∙ rows_many (sheet_in (rules_of a.given.now)) _ c.few_rows.ensures (not-true _ c.if-not-few_rows.true-raw)

pub returns-then-not-roles_fit : goal.returns-then-not-roles_fit
unfolding sheet_of few_rows roles_fit
returns-then-not-roles_fit c =
    let a = c.args in
    c.refuse-then-not-roles_fit.ensures
    ∙ rows_roles (sheet_in (rules_of a.given.now)) _ c.few_rows.ensures _ c.roles_fit.ensures (not-false _ c.if-not-few_rows.false-raw) (not-true _ c.if-not-roles_fit.true-raw)

pub first_unfit-first-requires : goal.first_unfit-first-requires
first_unfit-first-requires c =
    limits_say _ _ _ _ (sym c.few_rows.ensures ∙ not-false _ c.if-not-few_rows.false-raw)

pub overflow_add-counts : goal.overflow_add-counts
overflow_add-counts c =
    let n = c.args.given.now.counts in
    let l = limits_say n.periodics PERIODIC_ROWS n.triggers TRIGGER_ROWS (sym c.few_rows.ensures ∙ not-false _ c.if-not-few_rows.false-raw) in
    omega (arith, l.0, l.1)

pub returns-then-first-counts : goal.returns-then-first-counts
unfolding sheet_of few_rows roles_fit
returns-then-first-counts c =
    let a = c.args in
    c.refuse-then-first-counts.ensures
    ∙ rows_unfit (sheet_in (rules_of a.given.now)) _ c.few_rows.ensures _ c.roles_fit.ensures (not-false _ c.if-not-few_rows.false-raw) (not-false _ c.if-not-roles_fit.false-raw)
    _ c.first_unfit-first.ensures c.if-first-counts.true

pub returns : goal.returns
unfolding sheet_of few_rows roles_fit
returns c =
    let a = c.args in
    rows_fit (sheet_in (rules_of a.given.now)) _ c.few_rows.ensures _ c.roles_fit.ensures (not-false _ c.if-not-few_rows.false-raw) (not-false _ c.if-not-roles_fit.false-raw)
    _ c.first_unfit-first.ensures c.if-first-counts.false
