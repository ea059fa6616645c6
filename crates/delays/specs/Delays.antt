-- What triggers with a delay let wait (document 01, 'One instant').
-- Assumes nothing.
use Rattle.std.specs.Prelude.{◌&&◌, ℕ, ◌+◌, ltb}
use Rattle.theory.specs.Events.{Events, Roles}
use Rattle.theory.specs.Sheet.{Trigger}
use Rattle.theory.specs.Instant.{allows, met}
use Rattle.masks.specs.Joins.{Entry}
use Rattle.waiting.specs.Waiting.{place_of}

-- what a trigger lets wait at the instant t, with the roles ST before it and the events S: its head for as many instants later as its delay says
abbrev pub trigger_entry : Roles → Events → ℕ → Trigger → Entry
trigger_entry ST S t g = record { on = ltb 0 g.delay && (allows ST g && met S S g); at = place_of (t + g.delay) g.head; priority = g.priority }
