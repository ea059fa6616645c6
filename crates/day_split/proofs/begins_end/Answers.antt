-- `day_split::begins_end` meets its contract: the two tests are the definition's.
-- Assumes nothing.
use Rattle.day_split.specs.Split.{begins_end}
use Rattle.day_split.proofs.begins_end.Goals as goal

pub returns : goal.returns
unfolding begins_end
returns c =
    cc
