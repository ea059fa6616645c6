-- The edges of a table's triggers, one trigger after the other.
-- Assumes nothing.
use Rattle.std.specs.Prelude.{Bool, cond, ◌&&◌, ◌||◌, ℕ, eqb}
use Rattle.theory.specs.Below.{any_below}
use Rattle.theory.specs.Events.{conf}
use Rattle.theory.specs.Sheet.{Trigger, Sheet}
use Rattle.theory.specs.Graph.{Edges, counts}
use Rattle.reach_row.specs.Row.{Row, reaches}

-- where an edge for the body event e leaves: conf(e) for a − edge, e for a + edge
abbrev pub tail_of : Bool → ℕ → ℕ
tail_of negative e = cond negative (conf e) e

-- one of the first m body events of a trigger has its tail at x
abbrev pub leaves : (ℕ → ℕ) → Trigger → ℕ → ℕ → Bool
leaves from g m x = any_below m (λ j. eqb (from (g.event j)) x)

-- trigger i draws an edge from x to y, if x is a node
abbrev pub draws : (ℕ → ℕ) → Sheet → ℕ → Edges
draws from sh i x y = (counts sh i && eqb (sh.trigger i).head y) && leaves from (sh.trigger i) (sh.trigger i).event_count x

-- a trigger below i does
abbrev pub draws_below : (ℕ → ℕ) → Sheet → ℕ → Edges
draws_below from sh i x y = any_below i (λ r. draws from sh r x y)

-- with the edges of D added that leave an event of the row
abbrev pub added_from : Row → Edges → Edges → Edges
added_from heads D E x y = E x y || (reaches heads x && D x y)
