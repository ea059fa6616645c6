-- `text::line_at` meets its contract: where the line ends before the text does, its characters are the first line.
-- Assumes nothing.
use Rattle.std.proofs.Common.{drop, sym, ap, length-drop, arith}
use Rattle.text.specs.Lines.{first_ended}
use Rattle.text.specs.Laws.Lines.{line_here, first_none}
use Rattle.text.proofs.line_at.Goals as goal

pub returns-then-to-text : goal.returns-then-to-text
returns-then-to-text c = sym (ap first_ended (line_here c.args.text.now c.args.at c.line_end-to.result c.line_end-to.ensures c.if-to-text.true))

pub returns-else-to-text : goal.returns-else-to-text
returns-else-to-text c =
    sym (first_none (drop c.args.at c.args.text.now) (omega (arith, length-drop c.args.at c.args.text.now, c.line_end-to.ensures, c.if-to-text.false)))
