-- What is proved of a sheet that is read and written again: what was read is never refused by the writer, and two outcomes are equal.
-- Assumes nothing.
use Rattle.std.specs.Prelude.{◌≡◌, refl, List, ℕ, ◌-◌, ◌≤◌, length, take, drop, replicate, Err, Ok, Result}
use Rattle.std.proofs.Common.{sym, ap, ◌∙◌, subst, arith, length-take-le}
use Rattle.std.proofs.Math.Logic.{by_cases}
use Rattle.std.proofs.Math.Decide.{dec_le, ℕ_discrete}
use Rattle.theory.specs.Numbers.{SHEET_BYTES}
use Rattle.answers.specs.declared.Name.TheVariants.{Length}
use Rattle.answers.specs.declared.Refusal.{Refusal}
use Rattle.answers.specs.Answers.{refusal, verdict_of, pass}
use Rattle.answers.proofs.Laws.{no_pass}
use Rattle.text.specs.Lines.{lines}
use Rattle.tables.specs.declared.Counts.{Counts}
use Rattle.tables.specs.Layout.{PERIODIC_TABLE, TRIGGER_TABLE}
use Rattle.tables.specs.Lent.{Tables, tables_of, rules}
use Rattle.reader.specs.Out.{ReadOutcome, read_outcome}
use Rattle.reader.specs.Reading.{reading}
use Rattle.accepted.specs.Laws.Accepted.{reading_good, reading_passes, reading_sizes}
use Rattle.writer.specs.Outcome.{WriteOutcome}
use Rattle.writer.proofs.Laws.Exact.{Passes, passes_so, front_one}
use Rattle.day_split.specs.declared.Parts.{Parts}
use Rattle.day_split.specs.Split.{sheet_bytes, sheet_part}
use Rattle.day_split.specs.Parted.{parted}
use Rattle.day_input.specs.Opening.{INPUT_BYTES, sheet_reading}
use Rattle.resend.specs.declared.Resent.{Resent}
use Rattle.resend.specs.Resend.{NothingSent, Again, ByAnswer, AfterReading, ResendOutcome}

module _ (input p t : List ℕ) (zero-periodics : p ≡ replicate PERIODIC_TABLE 0) (zero-triggers : t ≡ replicate TRIGGER_TABLE 0)
    (s : Parts) (split : s ≡ parted 0 0 (lines input)) (inside : s.bytes ≤ length input) (a : Result Counts Refusal) (p' t' : List ℕ)
    (read : read_outcome a p' t' ≡ reading (take (s.bytes - 0) (drop 0 input)) p t) where
  -- where the sheet ends
  ends : s.bytes ≡ sheet_bytes (lines input)
  ends = ap (λ (x : Parts). x.bytes) split ∙ omega arith

  -- it is the reading of the input's sheet
  is_read : read_outcome a p' t' ≡ sheet_reading input
  is_read =
      let b : s.bytes - 0 ≡ sheet_bytes (lines input) = omega (arith, ends) in
      read ∙ λ i. reading (take (b i) input) (zero-periodics i) (zero-triggers i)

  pub was_refused : (x : Refusal) → a ≡ Err x → (out : List ℕ) (r : Result Resent Refusal) (out' : List ℕ) → r ≡ Err x → out' ≡ out → AfterReading input (sheet_reading input) out r out'
  was_refused x e out r out' f g =
      subst (λ (o : ReadOutcome). AfterReading input o out r out') is_read (subst (λ (y : Result Counts Refusal). ByAnswer input y (tables_of p' t') out r out') (sym e) (f, g))

  module _ (counts : Counts) (e : a ≡ Ok counts) (out : List ℕ) where
    said : reading (sheet_part input) (replicate PERIODIC_TABLE 0) (replicate TRIGGER_TABLE 0) ≡ read_outcome (Ok counts) p' t'
    said = sym is_read ∙ ap (λ (y : Result Counts Refusal). read_outcome y p' t') e

    -- what was read the writer takes
    pub was_taken : length out ≡ SHEET_BYTES → (w : Result ℕ Refusal) (out' : List ℕ) → WriteOutcome (rules counts p' t') out w out' → verdict_of w ≡ pass
    was_taken whole w out' o =
        let sizes = reading_sizes _ _ _ counts p' t' said in
        let passes : Passes (rules counts p' t') (length out) =
        record { periodic_bytes = sizes.0; trigger_bytes = sizes.1; buffer = whole; tables = reading_passes _ _ _ counts p' t' said } in
        o.verdict ∙ passes_so (rules counts p' t') (length out) passes

    pub never_refused : {C : Type 0} → length out ≡ SHEET_BYTES → (w : Result ℕ Refusal) (out' : List ℕ) → WriteOutcome (rules counts p' t') out w out' → (x : Refusal) → w ≡ Err x → C
    never_refused whole w out' o x f = no_pass x (sym (ap verdict_of f) ∙ was_taken whole w out' o)

    pub was_read : (w : Result ℕ Refusal) (out' : List ℕ) → WriteOutcome (rules counts p' t') out w out' → (written : ℕ) → w ≡ Ok written
        → AfterReading input (sheet_reading input) out (Ok (record { length = written; from = s.bytes })) out'
    was_read w out' o written f =
        let r : Result Resent Refusal = Ok (record { length = written; from = s.bytes }) in
        let n : length (sheet_part input) ≡ sheet_bytes (lines input) = length-take-le (sheet_bytes (lines input)) input (omega (arith, inside, ends)) in
        let again : Again input (rules counts p' t') out r out' =
        record { resent = record { length = written; from = s.bytes }; answer = refl; front = o.passed written f; from = ends ∙ sym n } in
        subst (λ (z : ReadOutcome). AfterReading input z out r out') is_read (subst (λ (y : Result Counts Refusal). ByAnswer input y (tables_of p' t') out r out') (sym e) again)

-- ---- two outcomes are equal

module _ (input out : List ℕ) (r r' : Result Resent Refusal) (out' out'' : List ℕ) where
  abbrev Same : Type 0
  Same = (r ≡ r') × (out' ≡ out'')

  same_kept : (x : Refusal) → NothingSent x out r out' → NothingSent x out r' out'' → Same
  same_kept x a b = (a.0 ∙ sym b.0, a.1 ∙ sym b.1)

  -- by the answer of the reading
  same_answer : (a : Result Counts Refusal) (tables : Tables) → sheet_reading input ≡ record { answer = a; tables = tables } → ByAnswer input a tables out r out' → ByAnswer input a tables out r' out'' → Same
  same_answer (Err x) tables e f g = same_kept x f g
  same_answer (Ok counts) tables e f g =
      let good = (reading_good (sheet_part input) _ _ counts tables.periodics tables.triggers e).0 in
      let one = front_one (record { counts = counts; tables = tables }) good out f.resent.length g.resent.length out' out'' f.front g.front in
      let same : f.resent ≡ g.resent = λ i. record { length = one.0 i; from = (f.from ∙ sym g.from) i } in
      (f.answer ∙ ap Ok same ∙ sym g.answer, one.1)

  -- THE THEOREM
  pub resend_exact : ResendOutcome input out r out' → ResendOutcome input out r' out'' → Same
  resend_exact x y =
      by_cases (dec_le (length input) INPUT_BYTES)
      (λ (a : length input ≤ INPUT_BYTES).
      by_cases (ℕ_discrete (length out) SHEET_BYTES)
      (λ (b : length out ≡ SHEET_BYTES). same_answer (sheet_reading input).answer (sheet_reading input).tables refl (x.fits a b) (y.fits a b))
      (λ (b : ¬ (length out ≡ SHEET_BYTES)). same_kept (refusal Length 0) (x.unfit (λ f. b f.1)) (y.unfit (λ f. b f.1))))
      (λ (a : ¬ (length input ≤ INPUT_BYTES)). same_kept (refusal Length 0) (x.unfit (λ f. a f.0)) (y.unfit (λ f. a f.0)))
