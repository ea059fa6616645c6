-- `periodics::periodic_row` meets its contract: the calls in a line are the fields.
-- Assumes nothing.
use Rattle.tables.specs.Layout.{periodic_at}
use Rattle.periodics.proofs.periodic_row.Goals as goal

pub returns : goal.returns
unfolding periodic_at
returns c =
    cc
