-- `table_judge::loop_verdict` meets its contract: in each arm what was found is known.
-- Assumes nothing.
use Rattle.table_judge.proofs.loop_verdict.Goals as goal

pub returns-in-Some : goal.returns-in-Some
returns-in-Some c =
    rw c.in-Some.is c.refuse.ensures
