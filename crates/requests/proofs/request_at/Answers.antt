-- `requests::request_at` meets its contract: the three numbers from 3 × k on.
-- Assumes nothing.
use mathlib.Core.Path.{refl}
use Rattle.tables.specs.Asked.{request_at}
use Rattle.requests.proofs.request_at.Goals as goal

pub returns : goal.returns
unfolding request_at
returns c =
    rw (c.byte-3.ensures, c.byte-2.ensures, c.byte.ensures, c.row_index-at.ensures) refl
