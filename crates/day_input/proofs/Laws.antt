-- Laws of the input: what the code hands back is the opening.
-- Assumes nothing.
use Rattle.std.specs.Prelude.{◌≡◌, ℕ, ◌+◌, ◌-◌, ◌<◌, length, take, drop, Err, Ok, Result}
use Rattle.std.proofs.Common.{sym, ◌∙◌, length-drop, take_all}
use Rattle.std.proofs.Math.Path.{ap}
use mathlib.Core.List.{List}
use native.Mathlib.Omega.{arith}
use Rattle.std.proofs.lemmas.Bool.{lt-leb}
use Rattle.answers.specs.declared.Name.TheVariants.{Length}
use Rattle.answers.specs.declared.Refusal.{Refusal}
use Rattle.answers.specs.Answers.{refusal}
use Rattle.text.specs.Lines.{lines}
use Rattle.tables.specs.declared.Counts.{Counts}
use Rattle.reader.specs.Out.{ReadOutcome, read_outcome}
use Rattle.reader.specs.Reading.{reading}
use Rattle.day_split.specs.declared.Parts.{Parts}
use Rattle.day_split.specs.Split.{sheet_bytes, sheet_lines}
use Rattle.day_split.specs.Parted.{parted}
use Rattle.tape_tests.specs.declared.Heard.{Heard}
use Rattle.tape_tests.specs.Tests.{last_instant}
use Rattle.tape.specs.Tape.{tape_read}
use Rattle.tape.specs.Took.{took}
use Rattle.tape.specs.Laws.Line.{went, stopped}
use Rattle.day_input.specs.Opening.{INPUT_BYTES, sheet_reading}
use Rattle.day_input.specs.Planned.{Zeros, opened, by_heard, by_tape, by_sheet, by_reading, planned}
use Rattle.day_input.specs.declared.Plan.{Plan}
pub mod Exact

-- ---- the tape

module _ (tape : List ℕ) (counts : Counts) (from before : ℕ) (w : Result Heard Refusal) (is : took w ≡ tape_read counts.roles before tape) where
  pub tape_goes : (s : Heard) → w ≡ Ok s → Ok (record { counts = counts; from = from; last = last_instant s }) ≡ by_tape tape counts from before
  unfolding by_tape by_heard
  tape_goes s h = ap (by_heard counts from) (went w _ s is h)

  pub tape_stops : (x : Refusal) → w ≡ Err x → Err x ≡ by_tape tape counts from before
  unfolding by_tape by_heard
  tape_stops x h = ap (by_heard counts from) (stopped w _ x is h)

-- ---- the sheet

-- the rest of an input from a byte on
pub part_rest : (input : List ℕ) (from : ℕ) → take (length input - from) (drop from input) ≡ drop from input
part_rest input from = take_all (length input - from) (drop from input) (omega (arith, length-drop from input))

module _ (input p t : List ℕ) (zeros : Zeros p t) (s : Parts) (split : s ≡ parted 0 0 (lines input)) (a : Result Counts Refusal) (p' t' : List ℕ)
    (read : read_outcome a p' t' ≡ reading (take (s.bytes - 0) (drop 0 input)) p t) where
  -- it is the reading of the input's sheet
  is_read : read_outcome a p' t' ≡ sheet_reading input
  is_read =
      let e : s.bytes ≡ 0 + sheet_bytes (lines input) = ap (λ (x : Parts). x.bytes) split in
      let b : s.bytes - 0 ≡ sheet_bytes (lines input) = omega (arith, e) in
      read ∙ λ i. reading (take (b i) input) (zeros.0 i) (zeros.1 i)

  by_sheet_lem : (o : Result Plan Refusal) → o ≡ by_sheet input a → opened o p' t' ≡ by_reading input
  unfolding by_reading
  by_sheet_lem o e = ap (λ (x : Result Plan Refusal). opened x p' t') e ∙ ap (λ (x : ReadOutcome). record { answer = by_sheet input x.answer; tables = x.tables }) is_read

  pub sheet_goes : (counts : Counts) (o : Result Plan Refusal) → a ≡ Ok counts → o ≡ by_tape (take (length input - s.bytes) (drop s.bytes input)) counts s.bytes s.lines → opened o p' t' ≡ by_reading input
  unfolding by_sheet
  sheet_goes counts o e h =
      let b : s.bytes ≡ sheet_bytes (lines input) = ap (λ (x : Parts). x.bytes) split ∙ omega arith in
      let n : s.lines ≡ sheet_lines (lines input) = ap (λ (x : Parts). x.lines) split ∙ omega arith in
      by_sheet_lem o (h ∙ (ap (λ (x : List ℕ). by_tape x counts s.bytes s.lines) (part_rest input s.bytes) ∙ ((λ i. by_tape (drop (b i) input) counts (b i) (n i)) ∙ ap (by_sheet input) (sym e))))

  pub sheet_stops : (x : Refusal) → a ≡ Err x → opened (Err x) p' t' ≡ by_reading input
  unfolding by_sheet
  sheet_stops x e = by_sheet_lem (Err x) (ap (by_sheet input) (sym e))

-- ---- LENGTH

pub too_long : (input p t : List ℕ) → Zeros p t → (x : Refusal) → x ≡ refusal Length 0 → INPUT_BYTES < length input → opened (Err x) p t ≡ planned input
unfolding planned
too_long input p t z x e h = rw (lt-leb (length input) INPUT_BYTES h) (λ i. opened (Err (e i)) (z.0 i) (z.1 i))
