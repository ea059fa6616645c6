-- The row of a trigger frame, as its table holds it (document 01, 'The sheet', and docs/TABLES.md).
-- Assumes nothing.
use Rattle.std.specs.Prelude.{cond, List, [], ◌∷◌, ℕ, ◌+◌, ltb}
use Rattle.tables.specs.Layout.{byte_at}

-- the byte b at place j of n, and zero past n
unfoldable pub placed : ℕ → ℕ → ℕ → ℕ
placed j n b = cond (ltb j n) b 0

-- a trigger frame has its events after the two counts, then its conditions, then head, priority and delay
unfoldable pub event_place : List ℕ → ℕ → ℕ
event_place f j = placed j (byte_at f 1) (byte_at f (3 + j))

unfoldable pub condition_place : List ℕ → ℕ → ℕ
condition_place f j = placed j (byte_at f 2) (byte_at f (3 + byte_at f 1 + j))

unfoldable pub last_place : List ℕ → ℕ → ℕ
last_place f j = byte_at f (3 + byte_at f 1 + byte_at f 2 + j)

-- the row of a trigger frame: the counts, four places for events and four for conditions, unused ones zero, and head, priority and delay
unfoldable pub trigger_row : List ℕ → List ℕ
trigger_row f =
    byte_at f 1 ∷ byte_at f 2
    ∷ event_place f 0 ∷ event_place f 1 ∷ event_place f 2 ∷ event_place f 3
    ∷ condition_place f 0 ∷ condition_place f 1 ∷ condition_place f 2 ∷ condition_place f 3
    ∷ last_place f 0 ∷ last_place f 1 ∷ last_place f 2 ∷ []
