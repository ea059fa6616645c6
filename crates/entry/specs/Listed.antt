-- The requests of one instant as the customer lends them: a list of records of event, priority and delay (document 01, 'What comes back'), and the first 32 of them as flat numbers.
-- Assumes nothing.
use Rattle.std.specs.Prelude.{◌≡◌, List, ℕ, ◌<◌, length, get_or}
use Rattle.tables.specs.Asked.{Asked, request_at}
use Rattle.requests.specs.declared.Request.{Request}
use Rattle.requests.specs.Asked.{request_of}

-- what stands past the end of a list: it is ignored
abbrev pub none : Request
none = record { event = 0; priority = 0; delay = 0 }

-- the requests of a list: its length is their number
abbrev pub listed : List Request → Asked
listed rs = record { count = length rs; request = λ k. request_of (get_or rs k none) }

-- the first n records of a list are the first n requests of flat numbers
abbrev pub Holds : ℕ → List Request → List ℕ → Type 0
Holds n rs l = (k : ℕ) → k < n → request_at l k ≡ request_of (get_or rs k none)
