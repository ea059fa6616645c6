-- `reader::sheet_lengths_fit` meets its contract: the tests are the definition's.
-- Assumes nothing.
use mathlib.Core.Path.{refl}
use Rattle.reader.specs.Reading.{sheet_lengths_fit}
use Rattle.reader.proofs.sheet_lengths_fit.Goals as goal

pub returns : goal.returns
unfolding sheet_lengths_fit
returns c =
    refl
