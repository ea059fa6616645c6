-- `asked::wait_asked` meets its contract. The loop's invariant: the entries of the first k requests have joined.
-- Assumes nothing.
use mathlib.Core.Path.{◌≡◌}
use lib.ListN.{length}
use Rattle.tables.specs.Asked.{request_at}
use Rattle.masks.specs.Joins.{joins}
use Rattle.asked.specs.Adds.{wait_entry}
use Rattle.asked.proofs.wait_asked.Given as goal

abbrev pub invariant-loop-k : goal.invariant-loop-k
invariant-loop-k l =
    (length l.waiting ≡ length l.initial.waiting) × (l.waiting ≡ joins l.initial.waiting l.k (λ i. wait_entry l.t (request_at l.asked i)))
