-- The requests of one instant as flat numbers, one put in after the other.
-- Assumes nothing.
use Rattle.std.specs.Prelude.{List, ℕ, ◌+◌, ◌*◌, set}
use Rattle.tables.specs.Asked.{Request, REQUEST_BYTES}

-- how many flat numbers there are: three for each of 32 requests
abbrev pub FLAT_NUMBERS : ℕ
FLAT_NUMBERS = 96

-- flat numbers with request i put in
unfoldable pub put_at : List ℕ → ℕ → Request → List ℕ
put_at l i r =
    let at : ℕ = REQUEST_BYTES * i in
    set (set (set l at r.event) (at + 1) r.priority) (at + 2) r.delay
