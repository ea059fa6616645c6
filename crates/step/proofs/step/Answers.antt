-- `step::step` meets its contract: by the verdict on lengths, instant and number of requests, and then by that of `step_within`.
-- Assumes nothing.
use mathlib.Core.Path.{sym, subst}
use native.Mathlib.Omega.{arith}
use Rattle.answers.specs.Answers.{Verdict}
use Rattle.answers.proofs.Laws.{handed_on}
use Rattle.tables.specs.Asked.{flat}
use Rattle.tables.specs.Lent.{rules_of, lent}
use Rattle.step.specs.Outcome.{lengths_fit, Outcome}
use Rattle.step.proofs.Laws.Whole.{outer_ready, outer_few, outer_passed, outer_refused}
use Rattle.step.proofs.step.Goals as goal

pub overflow_cast-n : goal.overflow_cast-n
unfolding lengths_fit
overflow_cast-n c =
    let a = c.args in
    let few = outer_few (rules_of a.given.now) a.asked a.n (lent a.instant.now a.enabled.now a.waiting.now a.events.now)
    _ c.judge_first-first.ensures c.in_ok-first.was in
    omega (arith, few)

pub step_within-requires : goal.step_within-requires
unfolding lengths_fit
step_within-requires c =
    let a = c.args in
    outer_ready (rules_of a.given.now) a.asked a.n (lent a.instant.now a.enabled.now a.waiting.now a.events.now)
    _ c.judge_first-first.ensures c.in_ok-first.was

pub returns : goal.returns
unfolding lengths_fit
returns c =
    let a = c.args in
    outer_passed (rules_of a.given.now) a.asked a.n (lent a.instant.now a.enabled.now a.waiting.now a.events.now)
    _ c.judge_first-first.ensures _ (lent c.step_within.new.instant c.step_within.new.enabled c.step_within.new.waiting c.step_within.new.events) c.in_ok-first.was c.step_within.ensures

pub returns-in_err-first : goal.returns-in_err-first
unfolding lengths_fit
returns-in_err-first c =
    let a = c.args in
    let R = rules_of a.given.now in
    let before = lent a.instant.now a.enabled.now a.waiting.now a.events.now in
    subst (λ (v : Verdict). Outcome R (flat a.asked a.n) before v before) (sym (handed_on _ _ c.from_residual.ensures.1))
    (outer_refused R a.asked a.n before _ c.judge_first-first.ensures _ c.in_err-first.was)
