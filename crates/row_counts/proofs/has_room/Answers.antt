-- `row_counts::has_room` meets its contract: the tests of the code are those of the definition, in the same order.
-- Assumes nothing.
use borrow.Author.Tests.{lt-ltb, le-ltb, eq-eqb, ne_eqb}
use Rattle.row_counts.specs.Counts.{room_for}
use Rattle.row_counts.proofs.has_room.Goals as goal

pub returns-then-k-eq-PERIODIC : goal.returns-then-k-eq-PERIODIC
unfolding room_for
returns-then-k-eq-PERIODIC c =
    search (lt-ltb, le-ltb, eq-eqb, ne_eqb)

pub returns-then-k-eq-TRIGGER : goal.returns-then-k-eq-TRIGGER
unfolding room_for
returns-then-k-eq-TRIGGER c =
    search (lt-ltb, le-ltb, eq-eqb, ne_eqb)

pub returns : goal.returns
unfolding room_for
returns c =
    search (lt-ltb, le-ltb, eq-eqb, ne_eqb)
