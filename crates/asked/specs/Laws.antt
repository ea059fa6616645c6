-- What a request adds, made of what the code read.
-- Assumes nothing.
use Rattle.std.specs.Prelude.{◌≡◌, ℕ, ◌+◌, ltb, eqb}
use Rattle.std.proofs.Common.{ap}
use Rattle.tables.specs.Asked.{Request}
use Rattle.masks.specs.Joins.{Entry}
use Rattle.waiting.specs.Waiting.{place_of}
use Rattle.asked.specs.Adds.{given_entry, wait_entry}

pub given_entry_lem : (r r' : Request) (at : ℕ) → r ≡ r' → at ≡ r.event → ◌≡◌ {A = Entry} (record { on = eqb r.delay 0; at = at; priority = r.priority }) (given_entry r')
given_entry_lem r r' at e a = rw a (ap given_entry e)

pub wait_entry_lem : (r r' : Request) (t at : ℕ) → r ≡ r' → at ≡ place_of (t + r.delay) r.event → ◌≡◌ {A = Entry} (record { on = ltb 0 r.delay; at = at; priority = r.priority }) (wait_entry t r')
wait_entry_lem r r' t at e a = rw a (ap (wait_entry t) e)
