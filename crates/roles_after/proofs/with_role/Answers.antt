-- `roles_after::with_role` meets its contract: a shift of 1 by a role keeps its weight in 64 bits.
-- Assumes nothing.
use mathlib.Core.Path.{refl}
use borrow.Author.Tests.{lt-ltb, le-ltb}
use Rattle.roles_after.specs.After.{with_role}
use Rattle.masks.specs.Laws.Bits.{shl_one}
use Rattle.roles_after.proofs.with_role.Goals as goal

pub returns-then-r-lt-ROLES : goal.returns-then-r-lt-ROLES
unfolding with_role
returns-then-r-lt-ROLES c =
    let l = c.if-r-lt-ROLES.true in rw (c.if-on.true, lt-ltb _ _ l, shl_one 64 _ l) refl

pub returns-else-r-lt-ROLES : goal.returns-else-r-lt-ROLES
unfolding with_role
returns-else-r-lt-ROLES c =
    rw (c.if-on.true, le-ltb _ _ c.if-r-lt-ROLES.false) refl

pub returns-else-on : goal.returns-else-on
unfolding with_role
returns-else-on c =
    rw c.if-on.false refl
