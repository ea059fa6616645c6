-- `text::frame_column` meets its contract. The loop's invariant: what stands before i are digits, and the first that is none is as far from i as it is from there.
-- Assumes nothing.
use Rattle.std.proofs.Common.{arith}
use Rattle.text.specs.Laws.Framed.{bad_here, bad_more, bad_end}
use Rattle.theory.proofs.Laws.Tests.{held, fell}
use Rattle.text.proofs.frame_column.Goals as goal

pub returns-then-not-is_digit : goal.returns-then-not-is_digit
returns-then-not-is_digit c =
    omega (arith, c.loop-i.invariant, bad_here c.args.line.now c.loop-i.i c.loop-i-test.true (fell c.is_digit.ensures c.if-not-is_digit.true-raw))

pub loop-i-preserved : goal.loop-i-preserved
loop-i-preserved c =
    omega (arith, c.loop-i.invariant, bad_more c.args.line.now c.loop-i.i c.loop-i-test.true (held c.is_digit.ensures c.if-not-is_digit.false-raw))

pub returns : goal.returns
returns c =
    omega (arith, c.loop-i.invariant, bad_end c.args.line.now c.loop-i.i c.loop-i-test.false)
