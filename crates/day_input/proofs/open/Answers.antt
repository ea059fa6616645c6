-- `day_input::open` meets its contract: LENGTH, and then the parts.
-- Assumes nothing.
use borrow.Author.Tests.{le-leb}
use Rattle.day_input.specs.Planned.{planned}
use Rattle.day_input.proofs.Laws.{too_long}
use Rattle.day_input.proofs.open.Goals as goal

pub returns-then-input-le-INPUT_BYTES : goal.returns-then-input-le-INPUT_BYTES
unfolding planned
returns-then-input-le-INPUT_BYTES c =
    rw (le-leb _ _ c.if-input-le-INPUT_BYTES.true) c.open_within.ensures

pub returns : goal.returns
returns c =
    too_long _ _ _ c.requires _ c.refusal_of.ensures c.if-input-le-INPUT_BYTES.false
