-- `reader::SheetReader::at_end` meets its contract: in each arm the stage is known.
-- Assumes nothing.
use mathlib.Core.Path.{refl}
use Rattle.line_readers.specs.Walks.{by_verdict}
use Rattle.reader.specs.Lines.{at_end}
use Rattle.reader.proofs.SheetReaderLineReader.at_end.Goals as goal

pub returns-in-Start : goal.returns-in-Start
unfolding by_verdict at_end
returns-in-Start c =
    rw (c.refuse.ensures, c.in-Start.is) refl

pub returns-in-Rows : goal.returns-in-Rows
unfolding by_verdict at_end
returns-in-Rows c =
    rw (c.refuse-in-Rows.ensures, c.in-Rows.is) refl

pub returns-in-Ended : goal.returns-in-Ended
unfolding by_verdict at_end
returns-in-Ended c =
    rw c.in-Ended.is refl
