-- The row of a periodic frame, as its table holds it (document 01, 'The sheet', and docs/TABLES.md).
-- Assumes nothing.
use Rattle.std.specs.Prelude.{List, [], ◌∷◌, ℕ}
use Rattle.tables.specs.Layout.{byte_at}

-- the row of a periodic frame: the bytes after the kind and before the check
unfoldable pub periodic_row : List ℕ → List ℕ
periodic_row f =
    byte_at f 1 ∷ byte_at f 2 ∷ byte_at f 3 ∷ byte_at f 4 ∷ byte_at f 5 ∷ byte_at f 6 ∷ byte_at f 7 ∷ byte_at f 8
    ∷ byte_at f 9 ∷ byte_at f 10 ∷ byte_at f 11 ∷ byte_at f 12 ∷ byte_at f 13 ∷ byte_at f 14 ∷ byte_at f 15 ∷ byte_at f 16 ∷ []
