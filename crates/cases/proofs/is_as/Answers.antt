-- `cases::is_as` meets its contract: its test is that of the definition.
-- Assumes nothing.
use mathlib.Core.Path.{refl}
use borrow.Author.Tests.{eq-eqb, ne_eqb}
use Rattle.cases.specs.Digits.{as_form}
use Rattle.cases.proofs.is_as.Goals as goal

pub returns-then-form-eq48 : goal.returns-then-form-eq48
unfolding as_form
returns-then-form-eq48 c =
    rw (c.is_some.ensures, c.digit.ensures, eq-eqb _ _ c.if-form-eq48.true) refl

pub returns : goal.returns
unfolding as_form
returns c =
    search ne_eqb
