-- `reach_row::with` meets its contract: the truth value of b is stored where `on` and b is an event, and else nothing changes.
-- Assumes nothing.
use Rattle.reach_row.specs.Laws.Row.{with_on}
use Rattle.reach_row.proofs.with.Goals as goal

pub returns-then-i-lt-PLACES : goal.returns-then-i-lt-PLACES
returns-then-i-lt-PLACES c =
    let a = c.args in
    λ f h. with_on f _ a.b a.on c.index-i.result c.index-i.ensures h c.if-on.true c.if-i-lt-PLACES.true
