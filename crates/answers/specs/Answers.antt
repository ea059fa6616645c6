-- Document 01's table 'What comes back': the number of each answer, and the values that come with it; and the column that document 02, [2], adds to them. Contracts speak of verdicts, or of what holds one;
-- what a verdict is in numbers is said here alone: `number_of` in the line of a refusal (printed_frames/Frames), `answered` for `answer_of` and in the demands (claims/Demands).
-- Assumes nothing.
use Rattle.std.specs.Prelude.{ℕ, Result, Ok, Err}
use Rattle.answers.specs.declared.Name.{Name}
use Rattle.answers.specs.declared.Name.TheVariants.{Length, Frame, Check, Kind, Field, TooMany, Count, Loop, Request, Last}
use Rattle.answers.specs.declared.Refusal.{Refusal}
use Rattle.answers.specs.declared.Answer.{Answer}

-- what a judge says, as the code has it: Ok where nothing is against it, Err with the refusal
abbrev pub Verdict : Type 0
Verdict = Result (Unit {0}) Refusal

-- nothing is against it
abbrev pub pass : Verdict
pass = Ok tt

-- what any answer says as a verdict: nothing is against it where something is handed back, and else its refusal
abbrev pub verdict_of : {A : Type 0} → Result A Refusal → Verdict
verdict_of (Ok a) = pass
verdict_of (Err r) = Err r

-- the number of each refusal
abbrev pub number_of : Name → ℕ
number_of Length = 1
number_of Frame = 2
number_of Check = 3
number_of Kind = 4
number_of Field = 5
number_of TooMany = 6
number_of Count = 7
number_of Loop = 8
number_of Request = 9
number_of Last = 10

-- OK is number 0 with place 0 and column 0; a refusal is its number, its place and its column
abbrev pub answered : Verdict → Answer
answered (Ok tt) = record { number = 0; place = 0; column = 0 }
answered (Err r) = record { number = number_of r.name; place = r.place; column = r.column }

-- a refusal, at its place, and without a column: 0
abbrev pub refusal : Name → ℕ → Refusal
refusal name place = record { name = name; place = place; column = 0 }

-- the same refusal, in this column
abbrev pub in_column : ℕ → Refusal → Refusal
in_column column r = record { name = r.name; place = r.place; column = column }

-- the verdict that refuses
abbrev pub refuse : Name → ℕ → Verdict
refuse name place = Err (refusal name place)

-- a later test is asked only where those before it pass
unfoldable pub and_then : Verdict → Verdict → Verdict
and_then (Ok tt) later = later
and_then (Err r) later = Err r
