-- `turns::put` meets its contract: nothing is added where p:e is no prioritized event or is there, and else p:e is.
-- Assumes nothing.
use lib.Dec.{ltb}
use borrow.Author.Tests.{le-ltb, eq-eqb, ne_eqb}
use Rattle.theory.proofs.Laws.Tests.{and_left, and_right, not_both}
use Rattle.theory.proofs.Laws.Solving.{turn_idle}
use Rattle.tables.specs.Buffers.{bit}
use Rattle.turns.specs.Laws.{put_there, put_joined}
use borrow.Author.Rules.{rules}
use Rattle.turns.proofs.put.Goals as goal

pub returns-then-e-ge-EVENTS : goal.returns-then-e-ge-EVENTS
returns-then-e-ge-EVENTS c =
    turn_idle _ _ _ _ (λ _ h. not_both (and_left _ _ h) (le-ltb _ _ c.if-e-ge-EVENTS.true))

pub returns-then-p-ge-PRIORITIES : goal.returns-then-p-ge-PRIORITIES
returns-then-p-ge-PRIORITIES c =
    turn_idle _ _ _ _ (λ _ h. not_both (and_right (ltb c.args.e 128) _ h) (le-ltb _ _ c.if-p-ge-PRIORITIES.true))

pub returns-then-mask-p-eq1 : goal.returns-then-mask-p-eq1
unfolding bit
returns-then-mask-p-eq1 c =
    let a = c.args in
    put_there a.events.now a.e a.p _ _ c.index-at.ensures c.number-mask.ensures c.if-e-ge-EVENTS.false (eq-eqb _ _ c.if-mask-p-eq1.true)

pub returns : goal.returns
unfolding bit
returns c =
    put_joined c.args.events.now c.args.e c.args.p _ _ c.index-at.ensures c.number-mask.ensures c.if-e-ge-EVENTS.false
    _ c.join_where.ensures (search rules) c.if-p-ge-PRIORITIES.false (ne_eqb _ _ c.if-mask-p-eq1.false)
