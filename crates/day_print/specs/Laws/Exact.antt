-- The contract of the day leaves one possible answer and one possible content of the buffer, and an input has one day.
-- Assumes nothing.
use Rattle.std.specs.Prelude.{◌≡◌, refl, true, false, List, ◌++◌, ℕ, suc, eqb, length, drop, Err, Ok, Result}
use Rattle.std.proofs.Common.{sym, ap, ◌∙◌, subst, ⊎_elim, eqb-true}
use Rattle.std.proofs.lemmas.Bool.{eqb-false}
use Rattle.theory.specs.Model.{Trace}
use Rattle.theory.proofs.Laws.Tests.{test}
use Rattle.theory.proofs.Laws.Exact.{exact}
use Rattle.tables.specs.Lent.{rules}
use Rattle.day_input.specs.declared.Plan.{Plan}
use Rattle.day_input.specs.Opening.{Opening, opens, refused, opening}
use Rattle.day_input.specs.Planned.{planned, opening_of}
use Rattle.day_run.specs.Run.{GoodInput}
use Rattle.day_run.specs.Laws.Model.{one_model}
use Rattle.day_run.specs.Laws.Opened.{plan_opens, plan_refuses}
use Rattle.day_lines.specs.Lines.{minute_lines, OUTPUT_BYTES}
use Rattle.day_print.specs.Day.{Prints, AfterOpening, DayOutcome}
use Rattle.answers.specs.declared.Refusal.{Refusal}

-- an opening prints one thing
abbrev One : Opening → Type 0
One o = (a b : List ℕ) → Prints o a → Prints o b → a ≡ b

-- the lines are those of the one execution model
one_day : (plan : Plan) (p t tape : List ℕ) → GoodInput (rules plan.counts p t) tape → One (opening_of plan p t tape)
one_day plan p t tape ok a b m n =
    let one = one_model (rules plan.counts p t) tape ok in
    let e : m.trace ≡ n.trace = one.2 m.trace m.model ∙ sym (one.2 n.trace n.model) in
    m.lines ∙ (ap (λ (tr : Trace). minute_lines tr (suc plan.last)) e ∙ sym n.lines)

by_answer : (input : List ℕ) (o : Result Plan Refusal) → (planned input).answer ≡ o → One (opening input)
by_answer input (Ok plan) h =
    let p = (planned input).tables.periodics in
    let t = (planned input).tables.triggers in
    let x = plan_opens input p t (planned input).answer refl plan h in
    subst One (sym x.opens_it) (one_day plan p t (drop plan.from input) x.good)
by_answer input (Err x) h =
    subst One (sym (plan_refuses input (planned input).tables.periodics (planned input).tables.triggers (planned input).answer refl x h)) (λ a b m n. exact m n)

-- AN INPUT HAS ONE DAY
pub prints_one : (input a b : List ℕ) → Prints (opening input) a → Prints (opening input) b → a ≡ b
prints_one input = by_answer input (planned input).answer refl

-- and one thing comes back of it
back_one : (o : Opening) → One o → (out : List ℕ) (r r' : Result ℕ Refusal) (b b' : List ℕ) → AfterOpening o out r b → AfterOpening o out r' b' → (r ≡ r') × (b ≡ b')
back_one (opens sh RQ last) one out r r' b b' x y =
    let e : x.printed ≡ y.printed = one x.printed y.printed x.day y.day in
    (x.answer ∙ (ap (λ (s : List ℕ). Ok (length s)) e ∙ sym y.answer), x.buffer ∙ (ap (λ (s : List ℕ). s ++ drop (length s) out) e ∙ sym y.buffer))
back_one (refused z) one out r r' b b' x y = (exact x.0 y.0, exact x.1 y.1)

pub day_exact : (input out : List ℕ) (r r' : Result ℕ Refusal) (o o' : List ℕ) → DayOutcome input out r o → DayOutcome input out r' o' → (r ≡ r') × (o ≡ o')
day_exact input out r r' o o' x y =
    ⊎_elim
    (λ (h : eqb (length out) OUTPUT_BYTES ≡ true).
    let e : length out ≡ OUTPUT_BYTES = eqb-true _ _ h in
    back_one (opening input) (prints_one input) out r r' o o' (x.fits e) (y.fits e))
    (λ (h : eqb (length out) OUTPUT_BYTES ≡ false).
    let a = x.unfit (eqb-false _ _ h) in
    let b = y.unfit (eqb-false _ _ h) in
    (exact a.0 b.0, exact a.1 b.1))
    (test (eqb (length out) OUTPUT_BYTES))
