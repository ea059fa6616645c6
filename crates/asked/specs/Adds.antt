-- What a request adds to the events and to the waiting buffer (document 01, 'One instant').
-- Assumes nothing.
use Rattle.std.specs.Prelude.{ℕ, ◌+◌, ltb, eqb}
use Rattle.tables.specs.Asked.{Request}
use Rattle.masks.specs.Joins.{Entry}
use Rattle.waiting.specs.Waiting.{place_of}

-- a request with delay 0 is a given
abbrev pub given_entry : Request → Entry
given_entry r = record { on = eqb r.delay 0; at = r.event; priority = r.priority }

-- one with a delay waits, from the instant t on, for as many instants later
abbrev pub wait_entry : ℕ → Request → Entry
wait_entry t r = record { on = ltb 0 r.delay; at = place_of (t + r.delay) r.event; priority = r.priority }
