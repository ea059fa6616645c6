-- `tape::TapeReader::at_end` meets its contract: the end was there, or it was not.
-- Assumes nothing.
use mathlib.Core.Path.{refl, sym, ◌∙◌}
use Rattle.line_readers.specs.Walks.{by_verdict}
use Rattle.tape.specs.Tape.{tape_ends}
use Rattle.tape.proofs.TapeReaderLineReader.at_end.Goals as goal

pub returns-then-is_some : goal.returns-then-is_some
unfolding by_verdict tape_ends
returns-then-is_some c =
    rw (sym c.is_some.ensures ∙ c.if-is_some.true) refl

pub returns : goal.returns
unfolding by_verdict tape_ends
returns c =
    rw (c.refuse.ensures, sym c.is_some.ensures ∙ c.if-is_some.false) refl
