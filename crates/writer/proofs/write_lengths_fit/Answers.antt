-- `writer::write_lengths_fit` meets its contract: the tests are the definition's.
-- Assumes nothing.
use mathlib.Core.Path.{refl}
use Rattle.writer.specs.Outcome.{write_lengths_fit}
use Rattle.writer.proofs.write_lengths_fit.Goals as goal

pub returns : goal.returns
unfolding write_lengths_fit
returns c =
    refl
