-- `text::line_end` meets its contract. The loop's invariant: no character from `at` to i is a line end, so the line from i on ends where that from `at` on does.
-- Assumes nothing.
use Rattle.std.proofs.Common.{◌≡◌, ◌+◌, ◌-◌, drop, length}
use Rattle.text.specs.Lines.{span}
use Rattle.text.proofs.line_end.Given as goal

abbrev pub invariant-loop-i : goal.invariant-loop-i
invariant-loop-i l = l.i + span (drop l.i l.text) ≡ l.at + span (drop l.at l.text)

abbrev pub decreases-loop-i : goal.decreases-loop-i
decreases-loop-i l = length l.text - l.i
