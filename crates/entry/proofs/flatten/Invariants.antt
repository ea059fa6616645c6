-- `entry::flatten` meets its contract. The loop's invariant: the numbers hold the first i records, and are as many as they were.
-- Assumes nothing.
use Rattle.std.proofs.Common.{◌≡◌, length}
use Rattle.requests.specs.Flat.{FLAT_NUMBERS}
use Rattle.entry.specs.Listed.{Holds}
use Rattle.entry.proofs.flatten.Given as goal

abbrev pub invariant-loop-i : goal.invariant-loop-i
invariant-loop-i l = (length l.l ≡ FLAT_NUMBERS) × Holds l.i l.requests l.l
