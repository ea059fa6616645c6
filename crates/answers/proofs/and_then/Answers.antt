-- `answers::and_then` meets its contract: by the first verdict.
-- Assumes nothing.
use Rattle.answers.specs.Answers.{and_then}
use Rattle.answers.proofs.Laws.{handed_on}
use Rattle.answers.proofs.and_then.Goals as goal

pub returns-in_err-first : goal.returns-in_err-first
unfolding and_then
returns-in_err-first c =
    rw c.in_err-first.was (handed_on _ _ c.from_residual.ensures.1)

pub returns : goal.returns
unfolding and_then
returns c =
    rw c.in_ok-first.was
