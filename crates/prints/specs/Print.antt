-- What is printed: frames as lines of upper-case hexadecimal, two digits a byte, the last byte making the sum of all a multiple of 256 (document 01, 'The sheet').
-- Assumes nothing.
use Rattle.std.specs.Prelude.{cond, List, [], ◌∷◌, ◌++◌, ℕ, ◌+◌, ◌-◌, ◌/◌, ◌%◌, ltb}
use Rattle.text.specs.Lines.{LINE_END}
use Rattle.frames.specs.Frame.{sum}

-- 0 to 9 are the characters 48 to 57, A to F are 65 to 70
unfoldable pub digit_of : ℕ → ℕ
digit_of d = cond (ltb d 10) (48 + d) (55 + d)

-- two digits a byte
abbrev pub hex_of : List ℕ → List ℕ
hex_of [] = []
hex_of (b ∷ f) = digit_of (b / 16) ∷ digit_of (b % 16) ∷ hex_of f

-- the last byte
unfoldable pub check_of : List ℕ → ℕ
check_of f = (256 - sum f % 256) % 256

-- a frame, and its check, as a line
abbrev pub line_of : List ℕ → List ℕ
line_of f = hex_of (f ++ (check_of f ∷ [])) ++ (LINE_END ∷ [])
