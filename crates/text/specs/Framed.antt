-- A line's characters: FRAME, and its column.
-- Assumes nothing.
use Rattle.std.specs.Prelude.{Bool, true, false, cond, List, [], ◌∷◌, ℕ, suc, ◌%◌, ltb, leb, eqb, length}

-- an upper-case hexadecimal digit: 0 to 9 are the characters 48 to 57, A to F are 65 to 70
unfoldable pub is_digit : ℕ → Bool
is_digit c = cond (ltb c 48) false (cond (leb c 57) true (cond (ltb c 65) false (leb c 70)))

-- where the first character stands that is no digit, from 0; the line's length where there is none
abbrev pub first_bad : List ℕ → ℕ
first_bad [] = 0
first_bad (c ∷ l) = cond (is_digit c) (suc (first_bad l)) 0

-- each is a digit
abbrev pub all_digits : List ℕ → Bool
all_digits l = eqb (first_bad l) (length l)

-- a line's characters pass FRAME: it is not empty, each is a digit, and their count is even (the final 0A is looked for where the lines are read)
unfoldable pub framed : List ℕ → Bool
framed l = cond (eqb (length l) 0) false (cond (all_digits l) (eqb (length l % 2) 0) false)

-- the column of FRAME, from 1: the first character that is no digit and, where all are digits, what stands after them, the 0A or the end
abbrev pub frame_column : List ℕ → ℕ
frame_column l = suc (first_bad l)
