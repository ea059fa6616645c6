-- `entry::step_requests` meets its contract: what `step` makes of the flat numbers it makes of the list.
-- Assumes nothing.
use Rattle.tables.specs.Lent.{rules_of, lent}
use Rattle.entry.proofs.Laws.{outcome_listed}
use Rattle.entry.proofs.step_requests.Goals as goal

pub returns : goal.returns
returns c =
    let a = c.args in
    let n = c.step.new in
    outcome_listed (rules_of a.given.now) a.requests.now c.flatten-numbers.result c.flatten-numbers.ensures
    (lent a.instant.now a.enabled.now a.waiting.now a.events.now) c.step.result (lent n.instant n.enabled n.waiting n.events) c.step.ensures
