-- `frames::total` meets its contract. The loop's invariant: the sum so far and that of the bytes from the index on make the whole sum, less multiples of 256.
-- Assumes nothing.
use Rattle.std.proofs.Common.{◌≡◌, ◌+◌, ◌%◌, drop}
use Rattle.frames.specs.Frame.{sum, bytes_of}
use Rattle.frames.proofs.total.Given as goal

abbrev pub invariant-loop-pair : goal.invariant-loop-pair
invariant-loop-pair l =
    (l.sum + sum (drop l.pair-index (bytes_of l.line))) % 256 ≡ sum (bytes_of l.line) % 256
