-- `trigger_frames::trigger_row` meets its contract: the calls in a line are the definition's parts.
-- Assumes nothing.
use Rattle.trigger_frames.specs.Row.{trigger_row}
use Rattle.trigger_frames.proofs.trigger_row.Goals as goal

pub returns : goal.returns
unfolding trigger_row
returns c =
    cc
