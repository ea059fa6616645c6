-- `text::end_by_one` meets its contract: at a line end the line has no more characters. (The check finds this alone; the answer stands for an edit that is refused just there.)
-- Assumes nothing.
use Rattle.std.proofs.Common.{rules, arith}
use Rattle.text.specs.Laws.Lines.{span_here}
use Rattle.text.proofs.end_by_one.Goals as goal

pub returns-then-text-i-eq-LINE_END : goal.returns-then-text-i-eq-LINE_END
returns-then-text-i-eq-LINE_END c =
    let g = span_here c.args.text.now c.loop-i.i (search rules) c.if-text-i-eq-LINE_END.true in
    omega (arith, g, c.loop-i.invariant)
