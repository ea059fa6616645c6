-- `kinds::may_stand` meets its contract: in each arm the stage is known.
-- Assumes nothing.
use Rattle.kinds.specs.Kinds.{may_stand}
use Rattle.kinds.proofs.may_stand.Goals as goal

pub returns-in-Start : goal.returns-in-Start
unfolding may_stand
returns-in-Start c =
    rw c.in-Start.is

pub returns-in-Rows : goal.returns-in-Rows
unfolding may_stand
returns-in-Rows c =
    rw c.in-Rows.is

pub returns-in-Ended : goal.returns-in-Ended
unfolding may_stand
returns-in-Ended c =
    rw c.in-Ended.is
