-- `periodic_frames::periodic_row` meets its contract. The loop's invariant: the bytes before the index are the row's.
-- Assumes nothing.
use Rattle.std.proofs.Common.{◌≡◌, ℕ, ◌+◌, ◌<◌, get_or}
use Rattle.tables.specs.Layout.{byte_at}
use Rattle.frames.specs.Frame.{bytes_of}
use Rattle.periodic_frames.proofs.periodic_row.Given as goal

abbrev pub invariant-loop-i : goal.invariant-loop-i
invariant-loop-i l = (k : ℕ) → k < l.i → get_or l.b-items k 0 ≡ byte_at (bytes_of l.line) (1 + k)
