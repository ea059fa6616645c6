-- `edges::nodes` meets its contract. The loop's invariant: the row holds the heads of the triggers below i that count.
-- Assumes nothing.
use mathlib.Core.Path.{◌∙◌}
use Rattle.tables.proofs.Laws.{head_byte}
use Rattle.edges.specs.Laws.{node_below, nodes_none, nodes_next, nodes_end}
use borrow.Author.Rules.{rules}
use Rattle.edges.proofs.nodes.Goals as goal

pub loop-i-init : goal.loop-i-init
loop-i-init c =
    nodes_none _ _ _ c.none-heads.ensures

pub loop-i-preserved : goal.loop-i-preserved
loop-i-preserved c =
    let n = c.args.n in
    let i = c.loop-i.i in
    nodes_next n _ _ i _ _ (c.counts_at-on.ensures n) (c.trigger_byte-head.ensures ∙ head_byte _ _) (c.with.ensures (node_below n _ i) c.loop-i.invariant)

pub returns : goal.returns
returns c =
    nodes_end c.args.n _ _ c.loop-i.i (search rules) (search rules) c.loop-i.invariant
