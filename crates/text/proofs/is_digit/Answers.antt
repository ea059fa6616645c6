-- `text::is_digit` meets its contract: its tests of two ranges give what the definition's give, at each of the 256 characters.
-- Assumes nothing.
use Rattle.text.specs.Laws.Framed.{two_ranges}
use borrow.Author.Rules.{rules}
use Rattle.text.proofs.is_digit.Goals as goal

pub returns : goal.returns
returns c =
    two_ranges c.args.c (search rules)
