-- `asked::add_asked` meets its contract. The loop's invariant: the entries of the first k requests have joined.
-- Assumes nothing.
use mathlib.Core.Path.{◌≡◌}
use lib.ListN.{length}
use Rattle.tables.specs.Asked.{request_at}
use Rattle.masks.specs.Joins.{joins}
use Rattle.asked.specs.Adds.{given_entry}
use Rattle.asked.proofs.add_asked.Given as goal

abbrev pub invariant-loop-k : goal.invariant-loop-k
invariant-loop-k l =
    (length l.events ≡ length l.initial.events) × (l.events ≡ joins l.initial.events l.k (λ i. given_entry (request_at l.asked i)))
