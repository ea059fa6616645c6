-- The rows of the waiting buffer as the code reads and clears them (document 01, 'Numbers': row (u mod 61) holds the events waiting for instant u).
-- Assumes nothing.
use Rattle.std.specs.Prelude.{List, ℕ, ◌+◌, ◌*◌, get_or}
use Rattle.theory.specs.Numbers.{EVENTS}
use Rattle.theory.specs.Box.{row}
use Rattle.masks.specs.Joins.{writes}

-- the number of the buffer that holds event e waiting for the instant u
abbrev pub place_of : ℕ → ℕ → ℕ
place_of u e = EVENTS * row u + e

-- an events buffer with the row of the instant t written over it
abbrev pub copied : List ℕ → List ℕ → ℕ → List ℕ
copied events waiting t = writes events 0 EVENTS (λ e. get_or waiting (place_of t e) 0)

-- the buffer with the row of the instant t all zeros
abbrev pub cleared : List ℕ → ℕ → List ℕ
cleared waiting t = writes waiting (EVENTS * row t) EVENTS (λ e. 0)
