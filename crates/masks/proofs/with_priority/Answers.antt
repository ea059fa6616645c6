-- `masks::with_priority` meets its contract: a shift of 1 by a priority keeps its weight in 16 bits.
-- Assumes nothing.
use mathlib.Core.Path.{refl}
use borrow.Author.Tests.{lt-ltb, le-ltb}
use Rattle.masks.specs.Masks.{with_priority}
use Rattle.masks.specs.Laws.Bits.{shl_one}
use Rattle.masks.proofs.with_priority.Goals as goal

pub returns-then-p-lt-PRIORITIES : goal.returns-then-p-lt-PRIORITIES
unfolding with_priority
returns-then-p-lt-PRIORITIES c =
    let l = c.if-p-lt-PRIORITIES.true in rw (lt-ltb _ _ l, shl_one 16 _ l) refl

pub returns-else-p-lt-PRIORITIES : goal.returns-else-p-lt-PRIORITIES
unfolding with_priority
returns-else-p-lt-PRIORITIES c =
    rw (le-ltb _ _ c.if-p-lt-PRIORITIES.false) refl
