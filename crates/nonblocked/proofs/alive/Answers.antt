-- `nonblocked::alive` meets its contract: the comparison of leading zeros is that of the highest priorities.
-- Assumes nothing.
use mathlib.Core.Path.{refl, sym, ◌∙◌}
use borrow.Author.Tests.{lt-ltb, le-ltb}
use Rattle.masks.specs.Laws.Live.{alive_enable, alive_disable}
use native.Mathlib.Omega.{arith}
use Rattle.nonblocked.proofs.alive.Goals as goal

pub returns-then-e-eq1 : goal.returns-then-e-eq1
returns-then-e-eq1 c =
    sym (alive_enable _ _ _ (omega arith) (omega arith) c.if-e-eq1.true)

pub returns-then-a-lt-EMPTY : goal.returns-then-a-lt-EMPTY
returns-then-a-lt-EMPTY c =
    sym (alive_disable _ _ _ (omega arith) (omega arith) c.if-e-eq1.false ∙ rw (lt-ltb _ 16 c.if-a-lt-EMPTY.true) refl)

pub returns : goal.returns
returns c =
    sym (alive_disable _ _ _ (omega arith) (omega arith) c.if-e-eq1.false ∙ rw (le-ltb _ 16 c.if-a-lt-EMPTY.false) refl)
