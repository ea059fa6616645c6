-- `conflicts::conflict` meets its contract: the low bit is tested as in the definition.
-- Assumes nothing.
use borrow.Author.Tests.{eq-eqb, ne_eqb}
use Rattle.theory.specs.Events.{conf}
use Rattle.conflicts.proofs.conflict.Goals as goal

pub returns-then-e-eq1 : goal.returns-then-e-eq1
unfolding conf
returns-then-e-eq1 c =
    search (eq-eqb)

pub returns : goal.returns
unfolding conf
returns c =
    search (ne_eqb)
