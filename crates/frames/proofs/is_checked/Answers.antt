-- `frames::is_checked` meets its contract: the sum is a multiple of 256 exactly when its rest is 0.
-- Assumes nothing.
use mathlib.Core.Path.{sym}
use Rattle.frames.specs.Frame.{checked}
use Rattle.frames.proofs.is_checked.Goals as goal

pub returns : goal.returns
unfolding checked
returns c =
    rw (sym c.total.ensures)
