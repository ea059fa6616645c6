-- `day_minute::day_minute` meets its contract: the batch, and the step with it.
-- Assumes nothing.
use Rattle.day_minute.specs.Laws.Outcome.{minute_of}
use Rattle.day_minute.proofs.day_minute.Goals as goal

pub returns : goal.returns
returns c =
    minute_of _ _ _ _ _ c.take_batch-b.ensures _ _ c.step-verdict.ensures c.row_known-2-1.given.fits
