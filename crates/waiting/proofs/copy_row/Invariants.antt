-- `waiting::copy_row` meets its contract. The loop's invariant: the first e numbers of the row are copied.
-- Assumes nothing.
use mathlib.Core.Path.{◌≡◌}
use lib.ListN.{length, get_or}
use Rattle.masks.specs.Joins.{writes}
use Rattle.waiting.specs.Waiting.{place_of}
use Rattle.waiting.proofs.copy_row.Given as goal

abbrev pub invariant-loop-e : goal.invariant-loop-e
invariant-loop-e l =
    (length l.events ≡ length l.initial.events) × (l.events ≡ writes l.initial.events 0 l.e (λ i. get_or l.waiting (place_of l.t i) 0))
