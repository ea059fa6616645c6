-- `prints::put_line` meets its contract: the frame's digits, behind them the check's, behind them the line end.
-- Assumes nothing.
use Rattle.prints.specs.Laws.Pasted.{line_pasted}
use borrow.Author.Rules.{rules}
use Rattle.prints.proofs.put_line.Goals as goal

pub returns : goal.returns
returns c =
    let a = c.args in
    cc (line_pasted a.out.now a.frame.now a.at (search rules))
