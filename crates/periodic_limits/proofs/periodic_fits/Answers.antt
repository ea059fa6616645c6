-- `periodic_limits::periodic_fits` meets its contract: all tests pass where the first that fails is past the last.
-- Assumes nothing.
use mathlib.Core.Path.{sym, ap, ◌∙◌}
use lib.Dec.{eqb}
use Prim.Native.Nat.{ℕ}
use Rattle.theory.specs.Sheet.{periodic_tests, periodic_fits}
use Rattle.theory.proofs.Laws.All.{all_first}
use Rattle.periodics.specs.Rows.{periodic_of}
use Rattle.periodic_limits.proofs.periodic_fits.Goals as goal

pub returns : goal.returns
unfolding periodic_fits
returns c =
    ap (λ (k : ℕ). eqb k 7) c.first_bad_periodic.ensures ∙ sym (all_first (periodic_tests c.args.roles (periodic_of c.args.w)))
