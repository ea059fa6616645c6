-- `prints::glyph` meets its contract: the test of the code is that of the definition.
-- Assumes nothing.
use borrow.Author.Tests.{lt-ltb, le-ltb}
use Rattle.prints.specs.Print.{digit_of}
use Rattle.prints.proofs.glyph.Goals as goal

pub returns-then-d-lt10 : goal.returns-then-d-lt10
unfolding digit_of
returns-then-d-lt10 c =
    search (lt-ltb, le-ltb)

pub returns : goal.returns
unfolding digit_of
returns c =
    search (lt-ltb, le-ltb)
