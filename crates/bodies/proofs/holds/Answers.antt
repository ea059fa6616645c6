-- `bodies::holds` meets its contract: its two arms are those of the definition.
-- Assumes nothing.
use mathlib.Core.Path.{ap}
use mathlib.Core.Bool.{not}
use borrow.Author.Tests.{eq-eqb, ne_eqb}
use Rattle.theory.specs.Events.{holds}
use Rattle.bodies.proofs.holds.Goals as goal

pub returns-then-c-eq1 : goal.returns-then-c-eq1
unfolding holds
returns-then-c-eq1 c =
    rw (eq-eqb _ _ c.if-c-eq1.true) c.role_on-on.ensures

pub returns : goal.returns
unfolding holds
returns c =
    rw (ne_eqb _ _ c.if-c-eq1.false) (ap not c.role_on-on.ensures)
