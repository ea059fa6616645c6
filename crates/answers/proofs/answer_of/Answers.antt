-- `answers::answer_of` meets its contract: in each arm the verdict is known, and `answered` computes.
-- Assumes nothing.
use Rattle.answers.proofs.answer_of.Goals as goal

pub returns-in-Ok : goal.returns-in-Ok
returns-in-Ok c =
    rw c.in-Ok.is

pub returns-in-Err : goal.returns-in-Err
returns-in-Err c =
    rw (c.in-Err.is, c.number_of.ensures)
