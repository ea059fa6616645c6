-- The frames that are printed, their check left out: numbers high byte first (document 01, 'The sheet' and 'The day program'; document 02, [2]). And the line that is printed of a refusal.
-- Assumes nothing.
use Rattle.std.specs.Prelude.{List, [], ◌∷◌, ◌++◌, ℕ, zero, suc, ◌/◌, ◌%◌, ◌^◌}
use Rattle.answers.specs.declared.Refusal.{Refusal}
use Rattle.answers.specs.Answers.{number_of}
use Rattle.prints.specs.Print.{line_of}

-- a number in k bytes, high byte first
abbrev pub bytes_in : ℕ → ℕ → List ℕ
bytes_in zero n = []
bytes_in (suc k) n = (n / 256 ^ k) % 256 ∷ bytes_in k n

-- a refusal: E0, number 1, place 4, column 4
abbrev pub refusal_frame : ℕ → ℕ → ℕ → List ℕ
refusal_frame number place column = 0xe0 ∷ bytes_in 1 number ++ (bytes_in 4 place ++ bytes_in 4 column)

-- as a line, with its check: of document 01's number, the place and the column
unfoldable pub refusal_line : Refusal → List ℕ
refusal_line r = line_of (refusal_frame (number_of r.name) r.place r.column)

-- a minute: 50, instant 4, enabled roles after it 8, count 1
abbrev pub minute_frame : ℕ → ℕ → ℕ → List ℕ
minute_frame instant roles count = 0x50 ∷ bytes_in 4 instant ++ (bytes_in 8 roles ++ bytes_in 1 count)
