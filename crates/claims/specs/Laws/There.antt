-- What the contracts ask for is there: every step has an outcome, and every input a day. (That code meets them says it too, of what a program can lend.)
-- Assumes nothing.
use Rattle.std.specs.Prelude.{◌≡◌, refl, true, false, List, ◌++◌, ℕ, suc, ◌^◌, ◌<◌, eqb, length, drop, Err, Ok, Result}
use Rattle.std.proofs.Common.{sym, subst, ⊎_elim, eqb-true}
use Rattle.std.proofs.lemmas.Bool.{eqb-false}
use Rattle.answers.specs.Answers.{refusal, Verdict, pass}
use Rattle.theory.specs.Numbers.{ROLES}
use Rattle.theory.specs.Below.{ExactlyOne}
use Rattle.theory.specs.Sheet.{GoodOrder}
use Rattle.theory.specs.Graph.{NoLoop}
use Rattle.theory.proofs.Laws.Tests.{test}
use Rattle.answers.specs.declared.Name.TheVariants.{Length}
use Rattle.answers.specs.declared.Refusal.{Refusal}
use Rattle.answers.proofs.Laws.{verdict_cases, no_pass}
use Rattle.tables.specs.Buffers.{roles_of, events_of, Narrow}
use Rattle.tables.specs.Asked.{Asked}
use Rattle.roles_after.specs.After.{roles_below}
use Rattle.roles_after.specs.Laws.{roles_are}
use Rattle.tables.specs.Lent.{Rules, rules, sheet_in, Lent, lent}
use Rattle.table_judge.proofs.Laws.{judge_passes}
use Rattle.requests.specs.Requests.{AllFit}
use Rattle.requests.specs.Laws.{requests_pass}
use Rattle.instant.specs.Acted.{refilled}
use Rattle.step.specs.Outcome.{judge_step, Stepped, Outcome}
use Rattle.step.proofs.Laws.Exact.{step_exact, one_buffer_served}
use Rattle.step.proofs.Laws.Buffers.{rows_size, rows_are}
use Rattle.step.proofs.Laws.Passes.{StepAccepted, step_passes}
use Rattle.day_input.specs.declared.Plan.{Plan}
use Rattle.day_input.specs.Opening.{Opening, opens, refused, opening}
use Rattle.day_input.specs.Planned.{Planned, planned, opening_of}
use Rattle.day_lines.specs.Lines.{minute_lines, OUTPUT_BYTES}
use Rattle.day_print.specs.Day.{Prints, AfterOpening, DayOutcome}
use Rattle.day_print.specs.Laws.Exact.{prints_one, day_exact}
use Rattle.day_run.specs.Laws.Model.{one_model}
use Rattle.day_run.specs.Laws.Opened.{OpensTo, plan_opens, plan_refuses}

-- ---- a step

module _ (R : Rules) (q : Asked) (l : Lent) (wide : l.roles < 2 ^ 64) (narrow : Narrow 16 l.waiting) where
  -- an accepted step: the one buffer that holds the solution, the roles after it and what waits then
  stepped : judge_step R q l ≡ pass → (a : Lent) × Stepped R q l a
  stepped h =
      let x : StepAccepted R q l = step_passes R q l h in
      let g : GoodOrder (sheet_in R) × NoLoop (sheet_in R) = judge_passes (sheet_in R) x.tables in
      let fit : AllFit R.counts.roles q = requests_pass R.counts.roles q x.requests in
      let one = one_buffer_served R g.0 g.1 q fit l narrow in
      let b : List ℕ = one.0 in
      let size = x.lengths.waiting in (
        lent (suc l.instant) (roles_below (roles_of l.roles) (events_of b) ROLES) (refilled l.waiting (events_of b) R.tables.triggers R.counts.triggers q (roles_of l.roles) l.instant) b,
        record {
          step = record {
            solves = one.1.2;
            instant = refl;
            roles = λ r. roles_are l.roles b wide r;
            waiting = λ k e p _. rows_are R g.0 q fit (roles_of l.roles) (events_of b) l.instant l.waiting size k e p;
          };
          waiting_size = rows_size R g.0 q fit (roles_of l.roles) (events_of b) l.instant l.waiting size;
          events_size = one.1.0;
        },
      )

  -- THE THEOREM: an answer and what is lent after it, and exactly one of each
  pub step_total : ExactlyOne (λ (o : Verdict × Lent). Outcome R q l o.0 o.1)
  step_total =
      ⊎_elim
      (λ (h : judge_step R q l ≡ pass).
      let s = stepped h in
      one (Ok tt) s.0 (record { judged = sym h; refused = λ r e. no_pass r (sym e); passed = λ _. s.1 }))
      (λ (h : (r : Refusal) × (judge_step R q l ≡ Err r)).
      one (Err h.0) l (record { judged = sym h.1; refused = λ r e. refl; passed = λ e. no_pass h.0 e }))
      (verdict_cases (judge_step R q l))
    where
      one : (v : Verdict) (a : Lent) → Outcome R q l v a → ExactlyOne (λ (o : Verdict × Lent). Outcome R q l o.0 o.1)
      one v a x = ((v, a), x, λ o y. let e = step_exact R q l o.0 v o.1 a y x in λ i. (e.0 i, e.1 i))

-- ---- a day

-- what is printed of an opening
abbrev Printing : Opening → Type 0
Printing o = (s : List ℕ) × Prints o s

open_there : (input : List ℕ) (plan : Plan) (p t : List ℕ) → OpensTo input plan p t → Printing (opening_of plan p t (drop plan.from input))
open_there input plan p t x =
    let m = one_model (rules plan.counts p t) (drop plan.from input) x.good in
    (minute_lines m.0 (suc plan.last), record { trace = m.0; model = m.1; lines = refl })

by_answer : (input : List ℕ) (o : Result Plan Refusal) → (planned input).answer ≡ o → Printing (opening input)
by_answer input (Ok plan) h =
    let o : Planned = planned input in
    let x = plan_opens input o.tables.periodics o.tables.triggers o.answer refl plan h in
    subst Printing (sym x.opens_it) (open_there input plan o.tables.periodics o.tables.triggers x)
by_answer input (Err r) h =
    let o : Planned = planned input in
    subst Printing (sym (plan_refuses input o.tables.periodics o.tables.triggers o.answer refl r h)) (_, refl)

-- THE THEOREM: an input has exactly one day
pub one_day : (input : List ℕ) → ExactlyOne (Prints (opening input))
one_day input = let s = by_answer input (planned input).answer refl in (s.0, s.1, λ other y. prints_one input other s.0 y s.1)

-- what comes back of it
back : (o : Opening) → Printing o → (out : List ℕ) → (r : Result ℕ Refusal) × (out' : List ℕ) × AfterOpening o out r out'
back (opens sh RQ last) (s, d) out =
    (Ok (length s), s ++ drop (length s) out, record { printed = s; day = d; answer = refl; buffer = refl })
back (refused x) s out = (Err x, out, (refl, refl))

-- and with any lent buffer exactly one outcome
pub day_total : (input out : List ℕ) → ExactlyOne (λ (o : Result ℕ Refusal × List ℕ). DayOutcome input out o.0 o.1)
day_total input out =
    ⊎_elim
    (λ (h : eqb (length out) OUTPUT_BYTES ≡ true).
    let d = one_day input in
    let b = back (opening input) (d.0, d.1) out in
    one b.0 b.1 (record { fits = λ _. b.2; unfit = λ n. absurd (n (eqb-true _ _ h)) }))
    (λ (h : eqb (length out) OUTPUT_BYTES ≡ false).
    one (Err (refusal Length 0)) out (record { fits = λ e. absurd (eqb-false _ _ h e); unfit = λ _. (refl, refl) }))
    (test (eqb (length out) OUTPUT_BYTES))
  where
    one : (r : Result ℕ Refusal) (o : List ℕ) → DayOutcome input out r o → ExactlyOne (λ (o : Result ℕ Refusal × List ℕ). DayOutcome input out o.0 o.1)
    one r o x = ((r, o), x, λ b y. let e = day_exact input out b.0 r b.1 o y x in λ i. (e.0 i, e.1 i))
