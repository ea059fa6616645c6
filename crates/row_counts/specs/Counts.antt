-- The rows counted: TOO MANY and COUNT.
-- Assumes nothing.
use Rattle.std.specs.Prelude.{Bool, true, cond, ◌&&◌, ℕ, ltb, eqb}
use Rattle.theory.specs.Numbers.{PERIODIC_ROWS, TRIGGER_ROWS}
use Rattle.kinds.specs.Kinds.{PERIODIC, TRIGGER, END}

-- passes TOO MANY: there is room for one row more of this kind
unfoldable pub room_for : ℕ → ℕ → ℕ → Bool
room_for k periodics triggers = cond (eqb k PERIODIC) (ltb periodics PERIODIC_ROWS) (cond (eqb k TRIGGER) (ltb triggers TRIGGER_ROWS) true)

-- passes COUNT: an end frame's counts a and b are those of the rows read
unfoldable pub counts_agree : ℕ → ℕ → ℕ → ℕ → ℕ → Bool
counts_agree k a b periodics triggers = cond (eqb k END) (eqb a periodics && eqb b triggers) true
