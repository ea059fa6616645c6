-- `trigger_frames::last_place` meets its contract: the calls in a line are the definition's parts.
-- Assumes nothing.
use Rattle.trigger_frames.specs.Row.{last_place}
use Rattle.trigger_frames.proofs.last_place.Goals as goal

pub returns : goal.returns
unfolding last_place
returns c =
    cc
