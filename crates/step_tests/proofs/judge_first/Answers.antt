-- `step_tests::judge_first` meets its contract: the tests in their order.
-- Assumes nothing.
use mathlib.Core.Path.{refl, sym, ◌∙◌}
use borrow.Author.Tests.{not-true, not-false, le-leb, lt-leb}
use Rattle.step_tests.specs.Order.{judge_first}
use Rattle.step_tests.proofs.judge_first.Goals as goal

pub returns-then-not-lengths_fit : goal.returns-then-not-lengths_fit
unfolding judge_first
returns-then-not-lengths_fit c =
    rw (sym c.lengths_fit.ensures ∙ not-true _ c.if-not-lengths_fit.true-raw) c.refuse.ensures

pub returns-then-t-gt-LAST_INSTANT : goal.returns-then-t-gt-LAST_INSTANT
unfolding judge_first
returns-then-t-gt-LAST_INSTANT c =
    rw (sym c.lengths_fit.ensures ∙ not-false _ c.if-not-lengths_fit.false-raw, lt-leb c.args.t _ c.if-t-gt-LAST_INSTANT.true) c.refuse-then-t-gt-LAST_INSTANT.ensures

pub returns-then-n-gt-REQUESTS : goal.returns-then-n-gt-REQUESTS
unfolding judge_first
returns-then-n-gt-REQUESTS c =
    let a = c.args in
    rw (sym c.lengths_fit.ensures ∙ not-false _ c.if-not-lengths_fit.false-raw, le-leb a.t _ c.if-t-gt-LAST_INSTANT.false, lt-leb a.n _ c.if-n-gt-REQUESTS.true) c.refuse-then-n-gt-REQUESTS.ensures

pub returns : goal.returns
unfolding judge_first
returns c =
    let a = c.args in
    rw (sym c.lengths_fit.ensures ∙ not-false _ c.if-not-lengths_fit.false-raw, le-leb a.t _ c.if-t-gt-LAST_INSTANT.false, le-leb a.n _ c.if-n-gt-REQUESTS.false) refl
