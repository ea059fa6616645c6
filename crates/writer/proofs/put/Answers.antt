-- `writer::put` meets its contract: the line is put, and the place after it is as far as the line is long.
-- Assumes nothing.
use Rattle.prints.specs.Laws.Lengths.{length_line}
use native.Mathlib.Omega.{arith}
use Rattle.writer.proofs.put.Goals as goal

pub returns : goal.returns
returns c =
    record { buffer = c.put_line.ensures; place = omega (arith, length_line c.args.frame.now) }
