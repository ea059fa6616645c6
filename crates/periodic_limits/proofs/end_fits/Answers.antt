-- `periodic_limits::end_fits` meets its contract: its two tests are those of the definition.
-- Assumes nothing.
use Rattle.theory.specs.Sheet.{end_fits}
use Rattle.periodic_limits.proofs.end_fits.Goals as goal

pub returns : goal.returns
unfolding end_fits
returns c =
    cc
