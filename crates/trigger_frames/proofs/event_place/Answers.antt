-- `trigger_frames::event_place` meets its contract: the calls in a line are the definition's parts.
-- Assumes nothing.
use Rattle.trigger_frames.specs.Row.{event_place}
use Rattle.trigger_frames.proofs.event_place.Goals as goal

pub returns : goal.returns
unfolding event_place
returns c =
    cc
