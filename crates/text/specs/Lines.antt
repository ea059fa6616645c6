-- The lines of a text. Each line is ended by byte 0A, which is no part of it.
-- Assumes nothing.
use Rattle.std.specs.Prelude.{cond, List, [], ◌∷◌, ℕ, suc, Option, None, Some, eqb}

-- byte 0A
abbrev pub LINE_END : ℕ
LINE_END = 10

pub data Lines : Type 0 where
  -- nothing is left
  none : Lines
  -- a last line with no final 0A
  endless : List ℕ → Lines
  -- a line, and the lines after its 0A
  line : List ℕ → Lines → Lines

-- a character in front of the first line
abbrev pub onto : ℕ → Lines → Lines
onto b none = endless (b ∷ [])
onto b (endless l) = endless (b ∷ l)
onto b (line l ls) = line (b ∷ l) ls

abbrev pub lines : List ℕ → Lines
lines [] = none
lines (b ∷ text) = cond (eqb b LINE_END) (line [] (lines text)) (onto b (lines text))

-- the first of them, where it has its 0A
abbrev pub first_ended : Lines → Option (List ℕ)
first_ended none = None
first_ended (endless l) = None
first_ended (line l ls) = Some l

-- all of them in order, a last one with no final 0A among them
abbrev pub all_lines : Lines → List (List ℕ)
all_lines none = []
all_lines (endless l) = l ∷ []
all_lines (line l ls) = l ∷ all_lines ls

-- how many bytes stand before the first line end
abbrev pub span : List ℕ → ℕ
span [] = 0
span (b ∷ text) = cond (eqb b LINE_END) 0 (suc (span text))
