-- `instant::refill` meets its contract: three parts, one after the other.
-- Assumes nothing.
use Rattle.instant.proofs.refill.Goals as goal

pub returns : goal.returns
returns c =
    cc
