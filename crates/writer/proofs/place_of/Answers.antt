-- `writer::place_of` meets its contract: the tests of the code are those of the definition, in the same order.
-- Assumes nothing.
use borrow.Author.Tests.{lt-ltb, le-ltb}
use Rattle.writer.specs.Made.{row_place}
use borrow.Author.Rules.{rules}
use Rattle.writer.proofs.place_of.Goals as goal

pub returns-then-k-e : goal.returns-then-k-e
unfolding row_place
returns-then-k-e c =
    (search (lt-ltb, le-ltb), search rules)

pub returns-then-k-e-2 : goal.returns-then-k-e-2
unfolding row_place
returns-then-k-e-2 c =
    (search (lt-ltb, le-ltb), search rules)

pub returns : goal.returns
unfolding row_place
returns c =
    (search (lt-ltb, le-ltb), search rules)
