-- `prints::check_of` meets its contract: the sum's rest is below 256, and what is added to it makes 256, or 0 where it is 0.
-- Assumes nothing.
use Rattle.std.proofs.Common.{arith}
use Rattle.prints.specs.Print.{check_of}
use Rattle.prints.proofs.check_of.Goals as goal

pub returns : goal.returns
unfolding check_of
returns c =
    omega arith
