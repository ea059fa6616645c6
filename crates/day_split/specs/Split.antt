-- The input of a day: a sheet up to and with the first line beginning F0, then a tape; with no such line all of it is sheet (document 01, 'The day program').
-- Assumes nothing.
use Rattle.std.specs.Prelude.{Bool, cond, ◌&&◌, List, ℕ, ◌+◌, eqb, length, get_or, take, drop}
use Rattle.text.specs.Lines.{Lines, none, endless, line, lines}

-- a line begins with the characters F and 0
unfoldable pub begins_end : List ℕ → Bool
begins_end l = eqb (get_or l 0 0) 70 && eqb (get_or l 1 0) 48

-- THE SPLIT, of the lines of an input: those up to and with the first that begins so, and all of them where there is none;
unfoldable pub up_to_end : Lines → Lines
up_to_end none = none
up_to_end (endless l) = endless l
up_to_end (line l ls) = line l (cond (begins_end l) none (up_to_end ls))

-- and those after it, none where there is no such line
unfoldable pub after_end : Lines → Lines
after_end none = none
after_end (endless l) = none
after_end (line l ls) = cond (begins_end l) ls (after_end ls)

-- how many bytes lines have, their ends among them, and how many lines they are
unfoldable pub byte_count : Lines → ℕ
byte_count none = 0
byte_count (endless l) = length l
byte_count (line l ls) = length l + 1 + byte_count ls

unfoldable pub line_count : Lines → ℕ
line_count none = 0
line_count (endless l) = 1
line_count (line l ls) = 1 + line_count ls

-- the bytes and the lines of the sheet
abbrev pub sheet_bytes : Lines → ℕ
sheet_bytes ls = byte_count (up_to_end ls)

abbrev pub sheet_lines : Lines → ℕ
sheet_lines ls = line_count (up_to_end ls)

-- THE TWO PARTS of an input. (Their lines are `up_to_end` and `after_end` of its lines: `sheet_lines_lem` and `tape_lines`, day_split/Laws/Parts.)
abbrev pub sheet_part : List ℕ → List ℕ
sheet_part input = take (sheet_bytes (lines input)) input

abbrev pub tape_part : List ℕ → List ℕ
tape_part input = drop (sheet_bytes (lines input)) input
