-- The line for the screen, without its 0A: 'a returned part of either the sheet or the tape, whichever was refused' (document 02, [2]).
-- Assumes nothing.
use Rattle.std.specs.Prelude.{Bool, true, false, cond, List, [], ◌∷◌, ◌++◌, ℕ, zero, suc, ◌+◌, ◌-◌, eqb, length, get_or, take, drop, Err, Ok, Result}
use Rattle.faulty_line.specs.declared.Span.{Span}
use Rattle.answers.specs.declared.Name.{Name}
use Rattle.answers.specs.declared.Name.TheVariants.{Length, Frame, Check, Kind, Field, TooMany, Count, Loop, Request, Last}
use Rattle.answers.specs.declared.Refusal.{Refusal}
use Rattle.text.specs.Lines.{Lines, none, endless, line, lines, all_lines}
use Rattle.faulty_line.specs.declared.Part.{Part}
use Rattle.faulty_line.specs.declared.Part.TheVariants.{Sheet, Tape}

-- which refusals of a sheet or of a tape have a line for their place
abbrev pub has_line : Name → Bool
has_line Frame = true
has_line Check = true
has_line Kind = true
has_line Field = true
has_line TooMany = true
has_line Count = true
has_line Request = true
has_line Length = false
has_line Loop = false
has_line Last = false

-- the line before which k others stand, in lines that begin at byte `from`: from which byte up to which, its 0A left out; or, where there are too few, how many
-- further lines are to be passed in the text that follows
abbrev pub spot_of : ℕ → ℕ → Lines → Result Span ℕ
spot_of from k none = Err k
spot_of from zero (endless l) = Ok (record { from = from; to = from + length l })
spot_of from (suc k) (endless l) = Err k
spot_of from zero (line l ls) = Ok (record { from = from; to = from + length l })
spot_of from (suc k) (line l ls) = spot_of (from + length l + 1) k ls

-- the empty part at the tape's end
abbrev pub tapes_end : List ℕ → Part
tapes_end tape = Tape (record { from = length tape; to = length tape })

-- what was found in the tape, and what was found in the sheet: lines are counted through the sheet and on through the tape
abbrev pub in_tape : List ℕ → Result Span ℕ → Part
in_tape tape (Ok g) = Tape g
in_tape tape (Err k) = tapes_end tape

abbrev pub in_sheet : List ℕ → Result Span ℕ → Part
in_sheet tape (Ok g) = Sheet g
in_sheet tape (Err k) = in_tape tape (spot_of 0 k (lines tape))

-- THE PART of a refusal of a sheet or of its tape: the line of its place, counted from 1; where the place is no line, or the two have not so many, the empty part at the tape's end
unfoldable pub faulty_part : List ℕ → List ℕ → Refusal → Part
faulty_part sheet tape r =
    cond (has_line r.name)
    (cond (eqb r.place 0) (tapes_end tape) (in_sheet tape (spot_of 0 (r.place - 1) (lines sheet))))
    (tapes_end tape)

-- the bytes of a part
abbrev pub shown : Part → List ℕ → List ℕ → List ℕ
shown (Sheet g) sheet tape = take (g.to - g.from) (drop g.from sheet)
shown (Tape g) sheet tape = take (g.to - g.from) (drop g.from tape)

-- the lines of both in order, by which it is said that a part is the line of a place: `line_shown` (claims/Demands)
abbrev pub both_lines : List ℕ → List ℕ → List (List ℕ)
both_lines sheet tape = all_lines (lines sheet) ++ all_lines (lines tape)

-- and at which byte line n of these begins, where each before it has its 0A: `part_of_sheet`, `part_of_tape` (claims/Demands)
abbrev pub start_of : List (List ℕ) → ℕ → ℕ
start_of [] n = 0
start_of (l ∷ ls) zero = 0
start_of (l ∷ ls) (suc n) = length l + 1 + start_of ls n

-- line n of these, as a part of the text
abbrev pub part_at : Bool → List (List ℕ) → ℕ → Part
part_at false ls n = Sheet (record { from = start_of ls n; to = start_of ls n + length (get_or ls n []) })
part_at true ls n = Tape (record { from = start_of ls n; to = start_of ls n + length (get_or ls n []) })
