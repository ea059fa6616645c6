-- `reach::take_over` meets its contract: a row that reaches k becomes the events of either row, and another stays as it is.
-- Assumes nothing.
use mathlib.Core.Path.{sym, ◌∙◌}
use Rattle.reach.specs.Laws.{over_all, over_not}
use borrow.Author.Rules.{rules}
use Rattle.reach.proofs.take_over.Goals as goal

pub returns-then-leads : goal.returns-then-leads
returns-then-leads c =
    let a = c.args in
    let i = c.index-i.result in
    let j = c.index-j.result in
    λ E h.
    over_all E _ h a.a a.k (search rules) (search rules)
    (sym c.leads.ensures ∙ c.if-leads.true)
    i j _
    c.index-i.ensures
    c.index-j.ensures
    (c.joined.ensures (E i) (E j) (h.each i (search rules)) (h.each j (search rules)))

pub returns-else-leads : goal.returns-else-leads
returns-else-leads c =
    let a = c.args in
    λ E h. over_not E _ h a.a a.k (search rules) (search rules) (sym c.leads.ensures ∙ c.if-leads.false)
