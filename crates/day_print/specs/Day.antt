-- A day: what is printed of an input, and what comes back of it with the lent buffer (document 01, 'The day program').
-- Assumes nothing.
use Rattle.std.specs.Prelude.{◌≡◌, List, ◌++◌, ℕ, suc, length, take, drop, Err, Ok, Result}
use Rattle.theory.specs.Sheet.{Sheet}
use Rattle.theory.specs.Model.{Stream, Trace, ExecutionModel, no_roles}
use Rattle.answers.specs.declared.Name.TheVariants.{Length}
use Rattle.answers.specs.declared.Refusal.{Refusal}
use Rattle.answers.specs.Answers.{refusal}
use Rattle.printed_frames.specs.Frames.{refusal_line}
use Rattle.day_input.specs.Opening.{Opening, opens, refused, opening}
use Rattle.day_lines.specs.Lines.{minute_lines, OUTPUT_BYTES}

-- one line for each instant 0 to last, of the paper's canonical execution model of the sheet and the requests
pub record PrintsDay (sh : Sheet) (RQ : Stream) (last : ℕ) (printed : List ℕ) : Type 0 where
  pub trace : Trace
  pub model : ExecutionModel no_roles sh RQ trace
  pub lines : printed ≡ minute_lines trace (suc last)

-- THE DAY: a refusal prints only its E0 frame
abbrev pub Prints : Opening → List ℕ → Type 0
Prints (opens sh RQ last) printed = PrintsDay sh RQ last printed
Prints (refused x) printed = printed ≡ refusal_line x

-- ---- the lent buffer

-- an input that opens: its lines stand at the front of the buffer, in so many bytes, and the rest of it stays
pub record Front (sh : Sheet) (RQ : Stream) (last : ℕ) (out : List ℕ) (r : Result ℕ Refusal) (out' : List ℕ) : Type 0 where
  pub printed : List ℕ
  pub day : PrintsDay sh RQ last printed
  pub answer : r ≡ Ok (length printed)
  pub buffer : out' ≡ printed ++ drop (length printed) out

-- a refusal, and the buffer as it came
abbrev pub Kept : Refusal → List ℕ → Result ℕ Refusal → List ℕ → Type 0
Kept x out r out' = (r ≡ Err x) × (out' ≡ out)

-- what comes back of an opening, with a buffer of its exact length
abbrev pub AfterOpening : Opening → List ℕ → Result ℕ Refusal → List ℕ → Type 0
AfterOpening (opens sh RQ last) out r out' = Front sh RQ last out r out'
AfterOpening (refused x) out r out' = Kept x out r out'

-- THE OUTCOME: a buffer that has not its exact length is LENGTH
pub record DayOutcome (input out : List ℕ) (r : Result ℕ Refusal) (out' : List ℕ) : Type 0 where
  pub fits : length out ≡ OUTPUT_BYTES → AfterOpening (opening input) out r out'
  pub unfit : (length out ≡ OUTPUT_BYTES → ⊥) → Kept (refusal Length 0) out r out'

-- ---- the program

-- what it writes of an outcome: what was printed at the front of the buffer, or the refusal's line
abbrev pub written : Result ℕ Refusal → List ℕ → List ℕ
written (Ok n) out = take n out
written (Err x) out = refusal_line x
