-- The keys of the triggers, and the triggers chained by them: a list of 513 numbers. Place i has the next trigger of the key of trigger i, place 256 + k the first of key k.
-- Assumes nothing.
use Rattle.std.specs.Prelude.{◌≡◌, List, ℕ, ◌+◌, ◌≤◌, ◌<◌, get_or}
use Rattle.theory.specs.Numbers.{TRIGGER_ROWS}
use Rattle.theory.specs.Solving.{key_of}
use Rattle.tables.specs.Layout.{byte_at, triggers_of}
use Rattle.tables.specs.Buffers.{roles_of}

-- a level is at most 255, so that a key is below 257
abbrev pub KEYS : ℕ
KEYS = 257

-- the key of trigger i, of n in a table
abbrev pub key_in : List ℕ → List ℕ → ℕ → ℕ → ℕ → ℕ
key_in table levels roles n = key_of (triggers_of n table) (roles_of roles) (byte_at levels)

-- the places of the chains
abbrev pub PLACES : ℕ
PLACES = TRIGGER_ROWS + KEYS

-- the trigger after trigger i, and the first of key k
abbrev pub after_of : List ℕ → ℕ → ℕ
after_of chains i = get_or chains i 0

abbrev pub first_of : List ℕ → ℕ → ℕ
first_of chains k = get_or chains (TRIGGER_ROWS + k) 0

-- of the triggers from i on and below n, r is the first of key k; it is n where there is none
pub record First (key : ℕ → ℕ) (n k i r : ℕ) : Type 0 where
  pub from : i ≤ r
  pub most : r ≤ n
  pub none : (j : ℕ) → i ≤ j → j < r → ¬ (key j ≡ k)
  pub there : r < n → key r ≡ k

-- the triggers from i on and below n are chained by their keys
pub record Chained (key : ℕ → ℕ) (n i : ℕ) (chains : List ℕ) : Type 0 where
  pub fits : (j : ℕ) → i ≤ j → j < n → key j < KEYS
  pub first : (k : ℕ) → k < KEYS → First key n k i (first_of chains k)
  pub after : (j : ℕ) → i ≤ j → j < n → First key n (key j) (j + 1) (after_of chains j)

-- n triggers are chained, by some keys
abbrev pub Linked : ℕ → List ℕ → Type 0
Linked n chains = (key : ℕ → ℕ) × Chained key n 0 chains
