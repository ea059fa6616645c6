-- `roles::role_on` meets its contract: a number of 64 bits has no weight from 64 on.
-- Assumes nothing.
use mathlib.Core.Path.{refl, sym}
use Rattle.tables.specs.Buffers.{bit}
use Rattle.masks.specs.Laws.Bits.{bit_high}
use native.Mathlib.Omega.{arith}
use Rattle.roles.proofs.role_on.Goals as goal

pub returns-then-r-lt-ROLES : goal.returns-then-r-lt-ROLES
unfolding bit
returns-then-r-lt-ROLES c =
    refl

pub returns : goal.returns
returns c =
    sym (bit_high c.args.roles 64 c.args.r (omega arith) c.if-r-lt-ROLES.false)
