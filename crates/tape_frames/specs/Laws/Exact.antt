-- The contract of `asked_in` leaves one possible answer: any two that it allows are equal.
-- Assumes nothing.
use Rattle.std.specs.Prelude.{◌≡◌, List, ℕ}
use Rattle.theory.proofs.Laws.Exact.{exact}
use Rattle.frames.specs.Frame.{bytes_of}
use Rattle.requests.specs.declared.Request.{Request}
use Rattle.requests.specs.Asked.{request_of}
use Rattle.requests.specs.Laws.Exact.{request_one}
use Rattle.tape_frames.specs.Frame.{asked_in}

pub asked_in_exact : (line : List ℕ) (r r' : Request) → request_of r ≡ asked_in (bytes_of line) → request_of r' ≡ asked_in (bytes_of line) → r ≡ r'
asked_in_exact line r r' h h' = request_one r r' (exact h h')
