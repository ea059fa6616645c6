-- `step_tests::lengths_fit` meets its contract: it is the definition's tests.
-- Assumes nothing.
use mathlib.Core.Path.{refl}
use Rattle.step_tests.specs.Order.{exact_lengths}
use Rattle.step_tests.proofs.lengths_fit.Goals as goal

pub returns : goal.returns
unfolding exact_lengths
returns c =
    refl
