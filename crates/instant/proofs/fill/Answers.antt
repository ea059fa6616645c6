-- `instant::fill` meets its contract: three parts, one after the other.
-- Assumes nothing.
use Rattle.instant.proofs.fill.Goals as goal

pub returns : goal.returns
returns c =
    cc
