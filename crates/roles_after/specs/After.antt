-- The roles after an instant as the code makes them, one role after the other.
-- Assumes nothing.
use Rattle.std.specs.Prelude.{Bool, cond, ◌&&◌, ℕ, zero, suc, ◌^◌, ltb}
use Rattle.std.specs.Int.Bits.{bit_or}
use Rattle.theory.specs.Numbers.{ROLES}
use Rattle.theory.specs.Events.{Events, Roles}
use Rattle.theory.specs.Instant.{roles_after}

-- the roles with role r, where `on`; a number over 63 is no role
unfoldable pub with_role : ℕ → ℕ → Bool → ℕ
with_role roles r on = cond (on && ltb r ROLES) (bit_or roles (2 ^ r)) roles

-- of the roles below n those that are enabled after, as a number
unfoldable pub roles_below : Roles → Events → ℕ → ℕ
roles_below ST S zero = 0
roles_below ST S (suc n) = with_role (roles_below ST S n) n (roles_after ST S n)
