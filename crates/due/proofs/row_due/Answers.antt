-- `due::row_due` meets its contract: it is the definition's tests.
-- Assumes nothing.
use mathlib.Core.Path.{refl}
use Rattle.theory.specs.Sheet.{until_end, row_due}
use Rattle.due.proofs.row_due.Goals as goal

pub returns : goal.returns
unfolding row_due until_end
returns c =
    rw (c.long.ensures, c.residue.ensures) refl
