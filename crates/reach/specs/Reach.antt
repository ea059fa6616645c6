-- What the steps of closing make of a graph E. What the closed rows are is `through` of the model, at all events.
-- Assumes nothing.
use Rattle.std.specs.Prelude.{◌&&◌, ◌||◌, ℕ, eqb}
use Rattle.theory.specs.Graph.{Edges}

-- a, where it reaches k, takes over what k reaches
abbrev pub taken_over : ℕ → ℕ → Edges → Edges
taken_over a k E x y = E x y || (eqb a x && (E a k && E k y))

-- each event that reaches k takes over what k reaches
abbrev pub via : ℕ → Edges → Edges
via k E x y = E x y || (E x k && E k y)
