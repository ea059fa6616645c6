-- `step::step_within` meets its contract: by the verdict of the tables and the requests.
-- Assumes nothing.
use mathlib.Core.Path.{sym, subst}
use Rattle.answers.specs.Answers.{Verdict}
use Rattle.answers.proofs.Laws.{handed_on}
use Rattle.tables.specs.Asked.{flat}
use Rattle.tables.specs.Lent.{rules_of, lent}
use Rattle.step.specs.Parts.{Inner}
use Rattle.step.proofs.Laws.Whole.{inner_passed, inner_refused}
use Rattle.step.proofs.step_within.Goals as goal

pub returns : goal.returns
returns c =
    let a = c.args in
    inner_passed (rules_of a.given.now) (flat a.asked.now a.m) (lent a.instant.now a.enabled.now a.waiting.now a.events.now)
    c.judge-judged.result _ _ c.judge-judged.ensures c.judge_requests-requests.ensures c.and_then.ensures
    (lent c.act.new.instant c.act.new.enabled c.act.new.waiting c.act.new.events) c.in_ok-and_then.was c.requires.1 c.act.ensures

pub returns-in_err-and_then : goal.returns-in_err-and_then
returns-in_err-and_then c =
    let a = c.args in
    let R = rules_of a.given.now in
    let q = flat a.asked.now a.m in
    let before = lent a.instant.now a.enabled.now a.waiting.now a.events.now in
    subst (λ (v : Verdict). Inner R q before v before) (sym (handed_on _ _ c.from_residual.ensures.1))
    (inner_refused R q before c.judge-judged.result _ _ c.judge-judged.ensures c.judge_requests-requests.ensures c.and_then.ensures _ c.in_err-and_then.was)
