-- A line's characters as the bytes of a frame: CHECK.
-- Assumes nothing.
use Rattle.std.specs.Prelude.{Bool, cond, List, [], ◌∷◌, ℕ, ◌+◌, ◌*◌, ◌-◌, ◌%◌, ltb, leb, eqb}

-- what a digit stands for, and 0 for what is none
unfoldable pub value : ℕ → ℕ
value c = cond (ltb c 48) 0 (cond (leb c 57) (c - 48) (cond (ltb c 65) 0 (cond (leb c 70) (c - 55) 0)))

-- two digits a byte
abbrev pub bytes_of : List ℕ → List ℕ
bytes_of [] = []
bytes_of (a ∷ []) = []
bytes_of (a ∷ b ∷ l) = (16 * value a + value b) ∷ bytes_of l

abbrev pub sum : List ℕ → ℕ
sum [] = 0
sum (b ∷ f) = b + sum f

-- passes CHECK: the sum of all bytes of the frame is a multiple of 256
unfoldable pub checked : List ℕ → Bool
checked f = eqb (sum f % 256) 0
