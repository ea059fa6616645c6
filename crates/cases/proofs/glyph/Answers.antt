-- `cases::glyph` meets its contract: its test is that of the definition.
-- Assumes nothing.
use borrow.Author.Tests.{lt-ltb, le-ltb}
use Rattle.cases.specs.Digits.{glyph_of}
use Rattle.cases.proofs.glyph.Goals as goal

pub returns-then-d-lt10 : goal.returns-then-d-lt10
unfolding glyph_of
returns-then-d-lt10 c =
    search (lt-ltb, le-ltb)

pub returns-else-d-lt10 : goal.returns-else-d-lt10
unfolding glyph_of
returns-else-d-lt10 c =
    search (lt-ltb, le-ltb)
