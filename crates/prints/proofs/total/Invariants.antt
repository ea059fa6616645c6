-- `prints::total` meets its contract. The loop's invariant: the sum so far and that of the bytes from the index on make the whole sum, less multiples of 256.
-- Assumes nothing.
use Rattle.std.proofs.Common.{◌≡◌, ◌+◌, ◌%◌, drop}
use Rattle.frames.specs.Frame.{sum}
use Rattle.prints.proofs.total.Given as goal

abbrev pub invariant-loop-b : goal.invariant-loop-b
invariant-loop-b l =
    (l.sum + sum (drop l.b-index l.frame)) % 256 ≡ sum l.frame % 256
