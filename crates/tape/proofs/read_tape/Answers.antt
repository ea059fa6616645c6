-- `tape::read_tape` meets its contract: what the walk makes of nothing heard is the reading, or its refusal.
-- Assumes nothing.
use mathlib.Core.Path.{ap, ◌∙◌}
use Rattle.answers.proofs.Laws.{handed_on}
use Rattle.line_readers.specs.Walks.{by_verdict}
use Rattle.tape.specs.Took.{took}
use Rattle.tape.proofs.read_tape.Goals as goal

pub returns : goal.returns
unfolding by_verdict
returns c =
    rw c.in_ok-walk.was at c.walk.ensures

pub returns-in_err-walk : goal.returns-in_err-walk
unfolding by_verdict
returns-in_err-walk c =
    ap took (handed_on _ _ c.from_residual.ensures.1) ∙ (rw c.in_err-walk.was at c.walk.ensures)
