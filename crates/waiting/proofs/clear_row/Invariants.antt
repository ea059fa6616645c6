-- `waiting::clear_row` meets its contract. The loop's invariant: the first e numbers of the row are cleared.
-- Assumes nothing.
use mathlib.Core.Path.{◌≡◌}
use Prim.Native.Nat.{◌*◌}
use lib.ListN.{length}
use Rattle.theory.specs.Box.{row}
use Rattle.masks.specs.Joins.{writes}
use Rattle.waiting.proofs.clear_row.Given as goal

abbrev pub invariant-loop-e : goal.invariant-loop-e
invariant-loop-e l =
    (length l.waiting ≡ length l.initial.waiting) × (l.waiting ≡ writes l.initial.waiting (128 * row l.t) l.e (λ i. 0))
