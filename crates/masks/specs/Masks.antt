-- What is done with masks: a mask of 16 bits is the set of priorities of an event (`Rattle.tables.specs.Buffers`).
-- Assumes nothing.
use Rattle.std.specs.Prelude.{Bool, not, cond, ◌&&◌, List, ℕ, ◌^◌, ltb, get_or, set}
use Rattle.std.specs.Int.Bits.{bit_or}
use Rattle.theory.specs.Numbers.{PRIORITIES}
use Rattle.theory.specs.Below.{any_below}
use Rattle.theory.specs.Events.{blocks}
use Rattle.tables.specs.Buffers.{bit}

-- some priority of event e in the mask `own` is not blocked by the mask `against` of the conflicting event
unfoldable pub alive_in : ℕ → ℕ → ℕ → Bool
alive_in own against e = any_below PRIORITIES (λ q. bit own q && not (any_below PRIORITIES (λ r. bit against r && blocks e r q)))

-- the mask with the priority p; a number over 15 is no priority and joins no mask
unfoldable pub with_priority : ℕ → ℕ → ℕ
with_priority m p = cond (ltb p PRIORITIES) (bit_or m (2 ^ p)) m

-- the buffer with the priority p in its number `at`
abbrev pub joined_at : List ℕ → ℕ → ℕ → List ℕ
joined_at l at p = set l at (with_priority (get_or l at 0) p)
