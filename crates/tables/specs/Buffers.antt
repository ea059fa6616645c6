-- Numbers as sets: a mask of 16 bits is a set of priorities, 128 of them a set of prioritized events, 61 × 128 the waiting rows, and a number of 64 bits a set of roles
-- (document 01, 'Numbers'). Every content has a meaning.
-- Assumes nothing.
use Rattle.std.specs.Prelude.{Bool, ◌&&◌, List, ℕ, ◌+◌, ◌*◌, ◌/◌, ◌%◌, ◌^◌, ◌<◌, eqb, ltb, length, get_or}
use Rattle.theory.specs.Numbers.{EVENTS}
use Rattle.theory.specs.Events.{Events, Roles}

-- n has the weight 2 to the power k
unfoldable pub bit : ℕ → ℕ → Bool
bit n k = eqb ((n / (2 ^ k)) % 2) 1

-- role r has the weight 2 to the power r
abbrev pub roles_of : ℕ → Roles
roles_of n r = bit n r

-- number e of an events buffer is the set of priorities of event e
abbrev pub events_of : List ℕ → Events
events_of l e p = ltb e EVENTS && bit (get_or l e 0) p

-- number 128 × k + e of a waiting buffer is the set of priorities of event e in row k
abbrev pub waiting_of : List ℕ → ℕ → Events
waiting_of l k e p = ltb e EVENTS && bit (get_or l (EVENTS * k + e) 0) p

-- every number of a buffer is of w bits
abbrev pub Narrow : ℕ → List ℕ → Type 0
Narrow w l = (i : ℕ) → i < length l → get_or l i 0 < 2 ^ w
