-- `reach_row::joined` meets its contract. The loop's invariant: the events of y below b have joined x.
-- Assumes nothing.
use mathlib.Core.Bool.{Bool, ◌&&◌, ◌||◌}
use Prim.Native.Nat.{ℕ}
use lib.Dec.{ltb}
use Rattle.reach_row.specs.Row.{RowIs}
use Rattle.reach_row.proofs.joined.Given as goal

abbrev pub invariant-loop-b : goal.invariant-loop-b
invariant-loop-b l =
    (f g : ℕ → Bool) → RowIs f l.initial.r → RowIs g l.y → RowIs (λ x. f x || (ltb x l.b && g x)) l.r
