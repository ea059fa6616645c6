-- `try_step::nonzero` is safe. The loop's invariant: at most as many are counted as were seen.
-- Assumes nothing.
use Rattle.std.proofs.Common.{◌≤◌}
use Rattle.try_step.proofs.nonzero.Given as goal

abbrev pub invariant-loop-mask : goal.invariant-loop-mask
invariant-loop-mask l = l.n ≤ l.mask-index
