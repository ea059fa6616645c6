-- `kinds::size_of` meets its contract: the tests of the code are those of the definition, in the same order.
-- Assumes nothing.
use borrow.Author.Tests.{lt-ltb, le-ltb, eq-eqb, ne_eqb}
use Rattle.kinds.specs.Kinds.{size_of}
use Rattle.kinds.proofs.size_of.Goals as goal

pub returns-then-k-eq-HEADER : goal.returns-then-k-eq-HEADER
unfolding size_of
returns-then-k-eq-HEADER c =
    search (lt-ltb, le-ltb, eq-eqb, ne_eqb)

pub returns-then-k-eq-PERIODIC : goal.returns-then-k-eq-PERIODIC
unfolding size_of
returns-then-k-eq-PERIODIC c =
    search (lt-ltb, le-ltb, eq-eqb, ne_eqb)

pub returns-then-k-eq-TRIGGER : goal.returns-then-k-eq-TRIGGER
unfolding size_of
returns-then-k-eq-TRIGGER c =
    search (lt-ltb, le-ltb, eq-eqb, ne_eqb)

pub returns-then-k-eq-END : goal.returns-then-k-eq-END
unfolding size_of
returns-then-k-eq-END c =
    search (lt-ltb, le-ltb, eq-eqb, ne_eqb)

pub returns : goal.returns
unfolding size_of
returns c =
    search (lt-ltb, le-ltb, eq-eqb, ne_eqb)
