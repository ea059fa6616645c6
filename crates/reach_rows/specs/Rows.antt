-- The array of rows, one per event, as the graph that it holds.
-- Assumes nothing.
use Rattle.std.specs.Prelude.{◌≡◌, Bool, ◌&&◌, ◌||◌, List, [], ℕ, ◌<◌, eqb, ltb, length, get_or}
use Rattle.theory.specs.Numbers.{EVENTS}
use Rattle.theory.specs.Graph.{Edges}
use Rattle.reach_row.specs.Row.{Row, whole, reaches, RowIs}

-- the rows as edges: a is an event and its row reaches b
unfoldable pub edges_of : List Row → Edges
edges_of rows a b = ltb a EVENTS && reaches (get_or rows a []) b

-- the rows are there, one for each event, and each is whole
abbrev pub whole_rows : List Row → Type 0
whole_rows rows = (length rows ≡ EVENTS) × ((a : ℕ) → a < EVENTS → whole (get_or rows a []))

-- the rows hold the graph E
pub record RowsAre (E : Edges) (rows : List Row) : Type 0 where
  pub size : length rows ≡ EVENTS
  pub each : (a : ℕ) → a < EVENTS → RowIs (E a) (get_or rows a [])

-- rows that held a graph E now hold F E
abbrev pub Become : (Edges → Edges) → List Row → List Row → Type 0
Become F rows rows' = (E : Edges) → RowsAre E rows → RowsAre (F E) rows'

-- a graph E with the edge from a to b added, where `on`
abbrev pub linked : Bool → ℕ → ℕ → Edges → Edges
linked on a b E x y = E x y || (on && (eqb a x && eqb b y))
