-- `writer::put_rows` meets its contract: before each turn the lines of the rows so far were put.
-- Assumes nothing.
use Rattle.writer.specs.Made.{Puts, text_below}
use Rattle.writer.proofs.put_rows.Given as goal

abbrev pub invariant-loop-i : goal.invariant-loop-i
invariant-loop-i g l =
    let rows = g.R.Rows in
    Puts l.initial.out l.at (text_below l.i (rows.text l.table)) l.out l.to
