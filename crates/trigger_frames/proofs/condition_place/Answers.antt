-- `trigger_frames::condition_place` meets its contract: the calls in a line are the definition's parts.
-- Assumes nothing.
use Rattle.trigger_frames.specs.Row.{condition_place}
use Rattle.trigger_frames.proofs.condition_place.Goals as goal

pub returns : goal.returns
unfolding condition_place
returns c =
    cc
