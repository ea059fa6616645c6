-- `text::is_framed` meets its contract: the tests of the code are those of the definition, in the same order.
-- Assumes nothing.
use mathlib.Core.Path.{sym, ◌∙◌}
use borrow.Author.Tests.{eq-eqb, ne_eqb}
use Rattle.text.specs.Framed.{framed}
use Rattle.text.proofs.is_framed.Goals as goal

pub returns-then-line-eq0 : goal.returns-then-line-eq0
unfolding framed
returns-then-line-eq0 c =
    rw (eq-eqb _ _ c.if-line-eq0.true)

pub returns-then-all : goal.returns-then-all
unfolding framed
returns-then-all c =
    rw (ne_eqb _ _ c.if-line-eq0.false, sym c.all_digits-all.ensures ∙ c.if-all.true)

pub returns : goal.returns
unfolding framed
returns c =
    rw (ne_eqb _ _ c.if-line-eq0.false, sym c.all_digits-all.ensures ∙ c.if-all.false)
