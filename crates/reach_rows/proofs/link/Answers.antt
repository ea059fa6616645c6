-- `reach_rows::link` meets its contract: the row of a gets b, and where a is no event nothing changes.
-- Assumes nothing.
use Rattle.reach_rows.specs.Laws.Rows.{link_in, link_past}
use borrow.Author.Rules.{rules}
use Rattle.reach_rows.proofs.link.Goals as goal

pub returns-then-i-lt-PLACES : goal.returns-then-i-lt-PLACES
returns-then-i-lt-PLACES c =
    let a = c.args in
    let i = c.index-i.result in
    λ E h. link_in E _ h a.on a.a a.b i c.index-i.ensures _ (search rules) (c.with.ensures (E i) (h.each i (search rules)))

pub returns-else-i-lt-PLACES : goal.returns-else-i-lt-PLACES
returns-else-i-lt-PLACES c =
    let a = c.args in
    λ E h. link_past E _ h a.on a.a a.b c.index-i.result c.index-i.ensures c.if-i-lt-PLACES.false
