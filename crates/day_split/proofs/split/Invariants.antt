-- `day_split::split` meets its contract. The loop's invariant: the parts of the lines from `at` on, with what stands before, are those of all. The measure is what is left of the input.
-- Assumes nothing.
use Rattle.std.proofs.Common.{◌≡◌, ◌-◌, ◌≤◌, length, drop}
use Rattle.text.specs.Lines.{lines}
use Rattle.day_split.specs.Parted.{parted}
use Rattle.day_split.proofs.split.Given as goal

abbrev pub invariant-loop-line : goal.invariant-loop-line
invariant-loop-line l =
    ((l.at ≤ length l.input) × (l.n ≤ l.at)) × (parted l.at l.n (lines (drop l.at l.input)) ≡ parted 0 0 (lines l.input))

abbrev pub decreases-loop-line : goal.decreases-loop-line
decreases-loop-line l =
    length l.input - l.at
