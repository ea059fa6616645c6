-- `tape::one_more` meets its contract: the test of the code is that of the definition.
-- Assumes nothing.
use borrow.Author.Tests.{eq-eqb, ne_eqb}
use Rattle.tape.specs.Tape.{many_with}
use borrow.Author.Rules.{rules}
use Rattle.tape.proofs.one_more.Goals as goal

pub overflow_add-result : goal.overflow_add-result
overflow_add-result c =
    let h = c.requires c.if-t-s.true in search rules

pub returns-then-t-s : goal.returns-then-t-s
unfolding many_with
returns-then-t-s c =
    search (eq-eqb, ne_eqb)

pub returns : goal.returns
unfolding many_with
returns c =
    search (eq-eqb, ne_eqb)
