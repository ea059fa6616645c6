-- `requests::judge_requests` meets its contract. The loop's invariant: of the first k requests none is found.
-- Assumes nothing.
use mathlib.Core.Path.{◌≡◌}
use Rattle.theory.specs.Below.{first_below}
use Rattle.tables.specs.Asked.{flat}
use Rattle.requests.specs.Requests.{outside}
use Rattle.requests.proofs.judge_requests.Given as goal

abbrev pub invariant-loop-k : goal.invariant-loop-k
invariant-loop-k l =
    (first_below l.k (outside l.roles (flat l.asked l.n)) ≡ l.k)
