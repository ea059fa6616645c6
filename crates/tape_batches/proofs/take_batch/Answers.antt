-- `tape_batches::take_batch` meets its contract. The loop's invariant: what is taken from the cursor on, and what is left then, stay the same. The measure is what is left of the tape.
-- Assumes nothing.
use Rattle.std.proofs.Common.{sym, ◌∙◌}
use borrow.Author.Tests.{not-true, not-false}
use Rattle.tape_batches.specs.Laws.{takes_end, takes_stop, takes_on}
use Rattle.tape_batches.proofs.take_batch.Goals as goal

pub loop-line-preserved : goal.loop-line-preserved
loop-line-preserved c =
    takes_on _ _ _ _ _ c.loop-line.invariant.1 _ c.in-Some.ensures (sym c.is_one_more.ensures ∙ not-false _ c.if-not-is_one_more.false-raw) _ (rw c.asked_in.ensures at c.put.ensures) c.loop-line.invariant.0

pub returns-then-not-is_one_more : goal.returns-then-not-is_one_more
returns-then-not-is_one_more c =
    takes_stop _ _ _ _ _ c.loop-line.invariant.1 _ c.in-Some.ensures (sym c.is_one_more.ensures ∙ not-true _ c.if-not-is_one_more.true-raw)

pub returns-in_default : goal.returns-in_default
returns-in_default c =
    takes_end _ _ _ _ _ c.loop-line.invariant.1 c.in_default.ensures
