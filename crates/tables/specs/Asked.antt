-- The requests of one instant as they are lent: a list of records of event, priority and delay, in any order (document 01, 'What comes back'). Only how many they are and
-- whether each is within its limits is asked of the list; all else goes by the set that it asks for.
-- Assumes nothing.
use Rattle.std.specs.Prelude.{◌&&◌, List, ℕ, ◌+◌, ◌*◌, eqb}
use Rattle.theory.specs.Below.{any_below}
use Rattle.theory.specs.Sheet.{is}
use Rattle.theory.specs.Instant.{Requests}
use Rattle.tables.specs.Layout.{byte_at}

pub record Request : Type 0 where
  pub event : ℕ
  pub priority : ℕ
  pub delay : ℕ

-- How many there are, and each of them; what stands past the count is ignored.
pub record Asked : Type 0 where
  pub count : ℕ
  pub request : ℕ → Request

-- the set that they ask for
unfoldable pub asks : Asked → Requests
asks q d e p = any_below q.count (λ k. eqb (q.request k).delay d && is (q.request k).event (q.request k).priority e p)

-- the bytes of a request
abbrev pub REQUEST_BYTES : ℕ
REQUEST_BYTES = 3

-- request k of flat numbers: event 1, priority 1, delay 1
unfoldable pub request_at : List ℕ → ℕ → Request
request_at l k =
    let at : ℕ = REQUEST_BYTES * k in
    record { event = byte_at l at; priority = byte_at l (at + 1); delay = byte_at l (at + 2) }

-- the first n requests of flat numbers
abbrev pub flat : List ℕ → ℕ → Asked
flat l n = record { count = n; request = request_at l }
