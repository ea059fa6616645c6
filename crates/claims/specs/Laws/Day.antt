-- What a day says: what the program writes is what is printed of the input, a refusal leaves the buffer as it came, and the answer in document 01's numbers is that of the input's opening.
-- Assumes nothing.
use Rattle.std.specs.Prelude.{◌≡◌, refl, ◌⊎◌, ◌↔◌, true, false, List, ℕ, ◌≤◌, eqb, length, drop, Err, Result}
use Rattle.std.proofs.Common.{sym, ap, ◌∙◌, subst, inl, inr, ⊎_elim, arith, eqb-true}
use Rattle.std.proofs.Math.Seq.{take-append_seam}
use Rattle.std.proofs.lemmas.Bool.{eqb-false}
use Rattle.theory.specs.Sheet.{Sheet}
use Rattle.theory.specs.Model.{Stream}
use Rattle.theory.proofs.Laws.Tests.{test}
use Rattle.answers.specs.declared.Refusal.{Refusal}
use Rattle.answers.specs.declared.Answer.{Answer}
use Rattle.answers.specs.Answers.{number_of, answered, verdict_of, Verdict, pass}
use Rattle.answers.proofs.Laws.{no_pass}
use Rattle.day_input.specs.Opening.{Opening, opens, refused, opening}
use Rattle.day_lines.specs.Lines.{OUTPUT_BYTES}
use Rattle.day_print.specs.Day.{PrintsDay, Prints, AfterOpening, DayOutcome, written}
use Rattle.day_print.specs.Laws.Exact.{prints_one}
use Rattle.claims.specs.Laws.Numbers.{not_ok}

-- what is written of what comes back is what is printed of the opening
written_prints : (o : Opening) (out : List ℕ) (r : Result ℕ Refusal) (out' : List ℕ) → AfterOpening o out r out' → Prints o (written r out')
written_prints (opens sh RQ last) out r out' f =
    let s : List ℕ = f.printed in
    let e : written r out' ≡ s = (λ i. written (f.answer i) (f.buffer i)) ∙ take-append_seam s (drop (length s) out) in
    subst (PrintsDay sh RQ last) (sym e) f.day
written_prints (refused x) out r out' k = ap (λ (p : Result ℕ Refusal). written p out') k.0

-- THE THEOREM: and nothing else is
pub day_prints : (input out : List ℕ) (r : Result ℕ Refusal) (out' : List ℕ) → length out ≡ OUTPUT_BYTES → DayOutcome input out r out'
    → Prints (opening input) (written r out') × ((other : List ℕ) → Prints (opening input) other → other ≡ written r out')
day_prints input out r out' l d =
    let w : Prints (opening input) (written r out') = written_prints (opening input) out r out' (d.fits l) in
    (w, λ other p. prints_one input other (written r out') p w)

-- where a refusal comes back, the buffer is as it came
back_keeps : (o : Opening) (out : List ℕ) (x : Refusal) (out' : List ℕ) → AfterOpening o out (Err x) out' → out' ≡ out
back_keeps (opens sh RQ last) out x out' f = no_pass x (ap verdict_of f.answer)
back_keeps (refused y) out x out' k = k.1

-- and so it is where the buffer has another length
pub day_keeps : (input out out' : List ℕ) (x : Refusal) → DayOutcome input out (Err x) out' → out' ≡ out
day_keeps input out out' x d =
    ⊎_elim
    (λ (h : eqb (length out) OUTPUT_BYTES ≡ true). back_keeps (opening input) out x out' (d.fits (eqb-true _ _ h)))
    (λ (h : eqb (length out) OUTPUT_BYTES ≡ false). (d.unfit (eqb-false _ _ h)).1)
    (test (eqb (length out) OUTPUT_BYTES))

-- ---- its answer in document 01's numbers

-- the answer to an opening
abbrev answer_to : Opening → Verdict
answer_to (opens sh RQ last) = pass
answer_to (refused x) = Err x

-- and so what comes back of it has
back_answers : (o : Opening) (out : List ℕ) (r : Result ℕ Refusal) (out' : List ℕ) → AfterOpening o out r out' → verdict_of r ≡ answer_to o
back_answers (opens sh RQ last) out r out' f = ap verdict_of f.answer
back_answers (refused x) out r out' k = ap verdict_of k.0

-- an input opens, or is refused
opening_cases : (o : Opening) → ((sh : Sheet) × (RQ : Stream) × (last : ℕ) × (o ≡ opens sh RQ last)) ⊎ ((x : Refusal) × (o ≡ refused x))
opening_cases (opens sh RQ last) = inl (sh, RQ, last, refl)
opening_cases (refused x) = inr (x, refl)

module _ (input out : List ℕ) (r : Result ℕ Refusal) (out' : List ℕ) (size : length out ≡ OUTPUT_BYTES) (day : DayOutcome input out r out') where
  -- by the opening
  answers : (o : Opening) → opening input ≡ o → answered (verdict_of r) ≡ answered (answer_to o)
  answers o e = ap answered (back_answers (opening input) out r out' (day.fits size) ∙ ap answer_to e)

  -- THE THEOREM: number 0, place 0, exactly where the input opens
  pub day_ok : (answered (verdict_of r) ≡ record { number = 0; place = 0; column = 0 }) ↔ ((sh : Sheet) × (RQ : Stream) × (last : ℕ) × (opening input ≡ opens sh RQ last))
  day_ok = (
    (λ h.
        ⊎_elim
        (λ (x : (sh : Sheet) × (RQ : Stream) × (last : ℕ) × (opening input ≡ opens sh RQ last)). x)
        (λ (y : (x : Refusal) × (opening input ≡ refused x)). not_ok y.0 (sym (answers (refused y.0) y.1) ∙ h))
        (opening_cases (opening input))),
    (λ x. answers (opens x.0 x.1 x.2) x.3),
  )

  -- and any other number, place and column exactly where it is refused with them
  pub day_refuses : (n k m : ℕ) → 1 ≤ n → (answered (verdict_of r) ≡ record { number = n; place = k; column = m }) ↔ ((x : Refusal) × (opening input ≡ refused x) × (number_of x.name ≡ n) × (x.place ≡ k) × (x.column ≡ m))
  day_refuses n k m l = (
    (λ h.
        ⊎_elim
        (λ (x : (sh : Sheet) × (RQ : Stream) × (last : ℕ) × (opening input ≡ opens sh RQ last)).
        let e : 0 ≡ n = ap (λ (a : Answer). a.number) (sym (answers (opens x.0 x.1 x.2) x.3) ∙ h) in
        absurd (omega (arith, l, e)))
        (λ (y : (x : Refusal) × (opening input ≡ refused x)).
        let e : answered (Err y.0) ≡ record { number = n; place = k; column = m } = sym (answers (refused y.0) y.1) ∙ h in
        (y.0, y.1, ap (λ (a : Answer). a.number) e, ap (λ (a : Answer). a.place) e, ap (λ (a : Answer). a.column) e))
        (opening_cases (opening input))),
    (λ x. answers (refused x.0) x.1 ∙ (λ i. record { number = x.2 i; place = x.3 i; column = x.4 i })),
  )

-- a buffer of another length is number 1, place 0
pub day_length : (input out : List ℕ) (r : Result ℕ Refusal) (out' : List ℕ) → (length out ≡ OUTPUT_BYTES → ⊥) → DayOutcome input out r out' → answered (verdict_of r) ≡ record { number = 1; place = 0; column = 0 }
day_length input out r out' n d = ap (λ (p : Result ℕ Refusal). answered (verdict_of p)) (d.unfit n).0
