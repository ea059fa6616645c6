-- `reach::go_through` meets its contract: with an edge it is phase k, and without one the paths through k are there already.
-- Assumes nothing.
use mathlib.Core.Path.{sym, ◌∙◌}
use Rattle.theory.specs.LoopTest.{through}
use Rattle.reach_rows.specs.Laws.Rows.{rows_say, no_edge}
use Rattle.reach.specs.Laws.{through_more, through_past}
use borrow.Author.Rules.{rules}
use Rattle.reach.proofs.go_through.Goals as goal

pub returns-then-some : goal.returns-then-some
returns-then-some c =
    let k = c.args.k in λ E h p. through_more E _ k (c.phase.ensures (through E k) p)

pub returns-else-some : goal.returns-else-some
returns-else-some c =
    let k = c.args.k in
    λ E h p.
    through_past E k (search rules) (λ b n. sym (rows_say h k b (search rules) n) ∙ no_edge _ k c.index.result _ c.index.ensures c.some.ensures c.if-some.false b n) _ p
