-- A sheet read and written again, alone or before a tape: the sheet of an input is that of a day's, up to and with the first line that begins F0. What follows it is neither tested nor touched.
-- Assumes nothing.
use Rattle.std.specs.Prelude.{◌≡◌, List, ℕ, ◌≤◌, length, Err, Ok, Result}
use Rattle.theory.specs.Numbers.{SHEET_BYTES}
use Rattle.answers.specs.declared.Name.TheVariants.{Length}
use Rattle.answers.specs.declared.Refusal.{Refusal}
use Rattle.answers.specs.Answers.{refusal}
use Rattle.tables.specs.Lent.{Tables, Rules}
use Rattle.reader.specs.Out.{ReadOutcome}
use Rattle.writer.specs.Outcome.{AtFront}
use Rattle.day_split.specs.Split.{sheet_part}
use Rattle.day_input.specs.Opening.{INPUT_BYTES, sheet_reading}
use Rattle.resend.specs.declared.Resent.{Resent}
use Rattle.tables.specs.declared.Counts.{Counts}

-- a refusal: nothing is written, and the buffer is as it came
abbrev pub NothingSent : Refusal → List ℕ → Result Resent Refusal → List ℕ → Type 0
NothingSent x out r out' = (r ≡ Err x) × (out' ≡ out)

-- what was read is written at the front of the buffer, and the input goes on where its sheet ends
pub record Again (input : List ℕ) (R : Rules) (out : List ℕ) (r : Result Resent Refusal) (out' : List ℕ) : Type 0 where
  pub resent : Resent
  pub answer : r ≡ Ok resent
  pub front : AtFront R out resent.length out'
  pub from : resent.from ≡ length (sheet_part input)

-- by what came of reading the input's sheet
abbrev pub ByAnswer : List ℕ → Result Counts Refusal → Tables → List ℕ → Result Resent Refusal → List ℕ → Type 0
ByAnswer input (Ok counts) tables out r out' = Again input (record { counts = counts; tables = tables }) out r out'
ByAnswer input (Err x) tables out r out' = NothingSent x out r out'

abbrev pub AfterReading : List ℕ → ReadOutcome → List ℕ → Result Resent Refusal → List ℕ → Type 0
AfterReading input o out r out' = ByAnswer input o.answer o.tables out r out'

-- THE OUTCOME: an input over its limit, or a buffer that has not its exact length, is LENGTH
pub record ResendOutcome (input out : List ℕ) (r : Result Resent Refusal) (out' : List ℕ) : Type 0 where
  pub fits : length input ≤ INPUT_BYTES → length out ≡ SHEET_BYTES → AfterReading input (sheet_reading input) out r out'
  pub unfit : ((length input ≤ INPUT_BYTES) × (length out ≡ SHEET_BYTES) → ⊥) → NothingSent (refusal Length 0) out r out'
