-- What the solver makes of an events buffer that holds the givens.
-- Assumes nothing.
use Rattle.std.specs.Prelude.{◌≡◌, List, ℕ, length}
use Rattle.theory.specs.Numbers.{EVENTS}
use Rattle.theory.specs.Sheet.{GoodOrder}
use Rattle.theory.specs.Instant.{Solves}
use Rattle.theory.specs.Graph.{Levels}
use Rattle.tables.specs.Layout.{byte_at, sheet_of}
use Rattle.tables.specs.Buffers.{roles_of, events_of}

-- The buffer keeps its length. And for every sheet with these n triggers that is in good order, if the levels meet the rule and the buffer has its length: what the
-- buffer holds after is the solution of the instant, whose givens are what it held before.
pub record Solved (levels table : List ℕ) (n roles : ℕ) (before after : List ℕ) : Type 0 where
  pub size : length after ≡ length before
  pub solves : (role_count periodic_count : ℕ) (periodics : List ℕ) → length before ≡ EVENTS
      → GoodOrder (sheet_of role_count periodic_count n periodics table)
      → Levels (sheet_of role_count periodic_count n periodics table) (byte_at levels)
      → Solves (sheet_of role_count periodic_count n periodics table) (roles_of roles) (events_of before) (events_of after)
