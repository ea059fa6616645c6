-- The column of a line's refusal, from 1: document 02, [2].
-- Assumes nothing.
use Rattle.std.specs.Prelude.{List, ℕ, ◌+◌, ◌-◌, ◌*◌, length, Err, Ok}
use Rattle.answers.specs.declared.Name.{Name}
use Rattle.answers.specs.declared.Name.TheVariants.{Length, Frame, Check, Kind, Field, TooMany, Count, Loop, Request, Last}
use Rattle.answers.specs.declared.Refusal.{Refusal}
use Rattle.answers.specs.Answers.{in_column, Verdict, pass}
use Rattle.text.specs.Framed.{frame_column}

-- the column of the first digit of byte i of a frame: two digits a byte
abbrev pub byte_column : ℕ → ℕ
byte_column i = 2 * i + 1

-- THE COLUMN of a refusal by its name, in the line l, whose first bad field, if it has one, begins at byte `field` of its frame: FRAME, the first bad character, or what stands after the last;
-- CHECK, the first of the two check digits, which stand last; FIELD, the first digit of that field; of any other 0
abbrev pub column_of : Name → List ℕ → ℕ → ℕ
column_of Frame l field = frame_column l
column_of Check l field = length l - 1
column_of Field l field = byte_column field
column_of Length l field = 0
column_of Kind l field = 0
column_of TooMany l field = 0
column_of Count l field = 0
column_of Loop l field = 0
column_of Request l field = 0
column_of Last l field = 0

-- a refusal of the line l, with its column
abbrev pub in_line : List ℕ → ℕ → Refusal → Refusal
in_line l field r = in_column (column_of r.name l field) r

-- a verdict on the line l likewise
unfoldable pub located : List ℕ → ℕ → Verdict → Verdict
located l field (Ok tt) = pass
located l field (Err r) = Err (in_line l field r)
