-- A row of events. `whole` and `reaches` are all that is said of its inside.
-- Assumes nothing.
use Rattle.std.specs.Prelude.{◌≡◌, Bool, false, ◌&&◌, List, ℕ, ◌<◌, ltb, length, get_or}
use Rattle.theory.specs.Numbers.{EVENTS}

-- a truth value for each event
abbrev pub Row : Type 0
Row = List Bool

-- the row has its truth values, one for each event
abbrev pub whole : Row → Type 0
whole row = length row ≡ EVENTS

-- the row reaches b, which is an event
unfoldable pub reaches : Row → ℕ → Bool
reaches row b = ltb b EVENTS && get_or row b false

-- the row holds the events that pass f
pub record RowIs (f : ℕ → Bool) (row : Row) : Type 0 where
  pub size : whole row
  pub says : (b : ℕ) → b < EVENTS → reaches row b ≡ f b
