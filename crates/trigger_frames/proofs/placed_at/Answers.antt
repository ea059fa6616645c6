-- `trigger_frames::placed_at` meets its contract: the tests of the code are those of the definition, in the same order.
-- Assumes nothing.
use borrow.Author.Tests.{lt-ltb, le-ltb}
use Rattle.trigger_frames.specs.Row.{placed}
use Rattle.trigger_frames.proofs.placed_at.Goals as goal

pub returns-then-j-n : goal.returns-then-j-n
unfolding placed
returns-then-j-n c =
    search (lt-ltb, le-ltb)

pub returns : goal.returns
unfolding placed
returns c =
    search (lt-ltb, le-ltb)
