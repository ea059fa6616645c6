-- `text::frame_column` meets its contract. The loop's invariant: what stands before i are digits, and the first that is none is as far from i as it is from there.
-- Assumes nothing.
use Rattle.std.proofs.Common.{◌≡◌, ◌+◌, drop}
use Rattle.text.specs.Framed.{first_bad}
use Rattle.text.proofs.frame_column.Given as goal

abbrev pub invariant-loop-i : goal.invariant-loop-i
invariant-loop-i l = l.i + first_bad (drop l.i l.line) ≡ first_bad l.line
