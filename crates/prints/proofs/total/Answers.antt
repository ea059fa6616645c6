-- `prints::total` meets its contract. The loop's invariant: the sum so far and that of the bytes from the index on make the whole sum, less multiples of 256.
-- Assumes nothing.
use Rattle.std.proofs.Common.{arith}
use Rattle.frames.specs.Laws.Frame.{sum_more, sum_end}
use Rattle.prints.proofs.total.Goals as goal

pub loop-b-preserved : goal.loop-b-preserved
loop-b-preserved c =
    let g = sum_more c.args.frame.now c.loop-b.b-index c.loop-b-test.true in
    omega arith

pub returns : goal.returns
returns c =
    let g = sum_end c.args.frame.now c.loop-b.b-index c.loop-b-test.false in
    omega arith
