-- The lines of a text as a list: document 01, 'each line ended by byte 0A'.
-- Assumes nothing.
use Rattle.std.specs.Prelude.{◌≡◌, List, [], ◌∷◌, ◌++◌, ℕ, ◌<◌, length, get_or}
use Rattle.text.specs.Lines.{LINE_END, Lines, none, endless, line, lines}

-- the lines that have their final 0A, in order
abbrev pub ended_lines : Lines → List (List ℕ)
ended_lines none = []
ended_lines (endless l) = []
ended_lines (line l ls) = l ∷ ended_lines ls

-- what stands after the last 0A
abbrev pub left_over : Lines → List ℕ
left_over none = []
left_over (endless l) = l
left_over (line l ls) = left_over ls

-- both, of a text's bytes
abbrev pub lines_in : List ℕ → List (List ℕ)
lines_in text = ended_lines (lines text)

abbrev pub rest_in : List ℕ → List ℕ
rest_in text = left_over (lines text)

-- ---- the same in other words

-- the bytes of lines, each with its final 0A
abbrev pub joined : List (List ℕ) → List ℕ
joined [] = []
joined (l ∷ ls) = l ++ LINE_END ∷ joined ls

-- no byte of it is 0A
abbrev pub Unbroken : List ℕ → Type 0
Unbroken l = (i : ℕ) → i < length l → ¬ (get_or l i 0 ≡ LINE_END)

-- THE TEXT IS these lines, each with its final 0A, and then this rest; and 0A stands nowhere else
pub record CutInto (text : List ℕ) (ls : List (List ℕ)) (rest : List ℕ) : Type 0 where
  pub bytes : text ≡ joined ls ++ rest
  pub each_line : (k : ℕ) → k < length ls → Unbroken (get_or ls k [])
  pub the_rest : Unbroken rest
