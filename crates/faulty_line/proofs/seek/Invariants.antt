-- `faulty_line::seek` meets its contract. The loop's invariant: the line that is looked for is, from the cursor on, that with `left` lines before it. The measure is what is left of the text.
-- Assumes nothing.
use Rattle.std.proofs.Common.{◌≡◌, ◌-◌, ◌≤◌, length, drop}
use Rattle.text.specs.Lines.{lines}
use Rattle.faulty_line.specs.Part.{spot_of}
use Rattle.faulty_line.proofs.seek.Given as goal

abbrev pub invariant-loop-line : goal.invariant-loop-line
invariant-loop-line l =
    (l.at ≤ length l.text) × (spot_of l.at l.left (lines (drop l.at l.text)) ≡ spot_of 0 l.k (lines l.text))

abbrev pub decreases-loop-line : goal.decreases-loop-line
decreases-loop-line l =
    length l.text - l.at
