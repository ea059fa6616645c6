-- `day_print::print_lines` meets its contract: the lines of any run are the day's.
-- Assumes nothing.
use Rattle.day_print.specs.Laws.Front.{front_lines}
use borrow.Author.Rules.{rules}
use Rattle.day_print.proofs.print_lines.Goals as goal

pub returns : goal.returns
returns c =
    front_lines _ _ _ _ _ _ c.requires c.run.ensures _ (search rules)
