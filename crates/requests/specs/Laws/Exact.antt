-- The contract of `request_at` leaves one possible answer: any two that it allows are equal.
-- Assumes nothing.
use Rattle.std.specs.Prelude.{◌≡◌, List, ℕ}
use Rattle.theory.proofs.Laws.Exact.{exact}
use Rattle.tables.specs.Asked.{request_at}
use Rattle.requests.specs.declared.Request.{Request}
use Rattle.requests.specs.Asked.{request_of}

-- a request is determined by what it is to the definitions
pub request_one : (r r' : Request) → request_of r ≡ request_of r' → r ≡ r'
request_one r r' p = λ i. record { event = (p i).event; priority = (p i).priority; delay = (p i).delay }

pub request_at_exact : (asked : List ℕ) (k : ℕ) (r r' : Request) → request_of r ≡ request_at asked k → request_of r' ≡ request_at asked k → r ≡ r'
request_at_exact asked k r r' h h' = request_one r r' (exact h h')
