-- The step is exact on loops and on all that it accepts: OK exactly where everything is within its limits and there is no loop, LOOP at k exactly where all that is tested before it
-- is and the loop is at k.
-- Assumes nothing.
use Rattle.std.specs.Prelude.{◌≡◌, refl, ◌↔◌, Bool, true, false, cond, ℕ, leb, Err, Ok}
use Rattle.std.proofs.Common.{sym, ap, ◌∙◌, subst, arith}
use Rattle.std.proofs.Math.Logic.{⊎_elim}
use Rattle.std.proofs.Math.Dec.{ltb}
use borrow.Author.Tests.{leb-true, le-leb, eq-eqb}
use Rattle.theory.specs.Numbers.{LAST_INSTANT, REQUESTS}
use Rattle.theory.specs.Sheet.{GoodOrder}
use Rattle.theory.specs.Graph.{NoLoop, LoopAt}
use Rattle.theory.proofs.Laws.Tests.{test}
use Rattle.answers.specs.declared.Name.{Name}
use Rattle.answers.specs.declared.Name.TheVariants.{Length, TooMany, Loop, Last}
use Rattle.answers.specs.Answers.{number_of, answered, refuse, and_then, Verdict, pass}
use Rattle.tables.specs.Asked.{Asked}
use Rattle.table_judge.specs.Judge.{judge_tables}
use Rattle.tables.specs.Lent.{Rules, sheet_in, Lent}
use Rattle.table_judge.specs.Says.{Says}
use Rattle.table_judge.proofs.Laws.{judge_says, judge_passes, judge_refuses_not, judge_finds}
use Rattle.step_tests.specs.Order.{exact_lengths}
use Rattle.requests.specs.Requests.{first_outside, judge_requests, AllFit}
use Rattle.requests.specs.Laws.{requests_pass, requests_fit}
use Rattle.step.specs.Outcome.{lengths_fit, judge_step, Outcome}
use Rattle.step.proofs.Laws.Passes.{StepAccepted, Lengths, lengths_say, step_passes, step_accepts}
use Rattle.claims.specs.Words.{Ordered}
use Rattle.claims.specs.Laws.Numbers.{answered_once}

-- a test whose refusal is not LOOP passed, where LOOP is given
past : (b : Bool) (v : Verdict) (name : Name) (place k : ℕ) → (number_of name ≡ 8 → ⊥) → cond b v (refuse name place) ≡ refuse Loop k → (b ≡ true) × (v ≡ refuse Loop k)
past true v name place k n e = (refl, e)
past false v name place k n e = absurd (n (ap (λ (x : Verdict). (answered x).number) e))

-- and so did what is tested before something that never gives it
then_past : (v w : Verdict) (k : ℕ) → ((answered w).number ≡ 8 → ⊥) → and_then v w ≡ refuse Loop k → v ≡ refuse Loop k
unfolding and_then
then_past (Ok tt) w k n e = absurd (n (ap (λ (x : Verdict). (answered x).number) e))
then_past (Err r) w k n e = e

module _ (R : Rules) (q : Asked) (l : Lent) where
  requests_not : (answered (judge_requests R.counts.roles q)).number ≡ 8 → ⊥
  unfolding judge_requests
  requests_not =
      ⊎_elim
      (λ (t : ltb (first_outside R.counts.roles q) q.count ≡ true). rw t (λ e. omega (arith, e)))
      (λ (f : ltb (first_outside R.counts.roles q) q.count ≡ false). rw f (λ e. omega (arith, e)))
      (test (ltb (first_outside R.counts.roles q) q.count))

  ordered : Lengths R l → leb l.instant LAST_INSTANT ≡ true → leb q.count REQUESTS ≡ true → GoodOrder (sheet_in R) → Ordered R q l
  ordered n a b g =
      record {
        periodics = n.periodics;
        triggers = n.triggers;
        waiting = n.waiting;
        events = n.events;
        instant = leb-true l.instant LAST_INSTANT a;
        requests = leb-true q.count REQUESTS b;
        rows = g;
      }

  -- THE THEOREM: a step is OK exactly where all is in order, there is no loop, and each request is within its limits
  pub step_passes_says : (judge_step R q l ≡ pass) ↔ (Ordered R q l × NoLoop (sheet_in R) × AllFit R.counts.roles q)
  step_passes_says = (
    (λ h.
        let a : StepAccepted R q l = step_passes R q l h in
        let g : GoodOrder (sheet_in R) × NoLoop (sheet_in R) = judge_passes (sheet_in R) a.tables in
        (ordered a.lengths (le-leb _ _ a.served) (le-leb _ _ a.few) g.0, g.1, requests_pass R.counts.roles q a.requests)),
    (λ x.
        let o : Ordered R q l = x.0 in
        step_accepts R q l
        (record {
          lengths = record { periodics = o.periodics; triggers = o.triggers; waiting = o.waiting; events = o.events };
          served = o.instant;
          few = o.requests;
          tables = judge_refuses_not (sheet_in R) o.rows x.1;
          requests = requests_fit R.counts.roles q x.2;
        })),
  )

  -- and LOOP at k exactly where all before it is in order and the loop is at k
  step_loops_says : (k : ℕ) → (judge_step R q l ≡ refuse Loop k) ↔ (Ordered R q l × LoopAt (sheet_in R) k)
  unfolding judge_step lengths_fit exact_lengths and_then
  step_loops_says k = (
    (λ h.
        let a = past (lengths_fit R l) _ Length 0 k (λ e. omega (arith, e)) h in
        let b = past (leb l.instant LAST_INSTANT) _ Last 0 k (λ e. omega (arith, e)) a.1 in
        let c = past (leb q.count REQUESTS) _ TooMany 0 k (λ e. omega (arith, e)) b.1 in
        let d : judge_tables (sheet_in R) ≡ refuse Loop k = then_past (judge_tables (sheet_in R)) (judge_requests R.counts.roles q) k requests_not c.1 in
        let g : GoodOrder (sheet_in R) × LoopAt (sheet_in R) k = (subst (Says (sheet_in R)) d (judge_says (sheet_in R))).0 in
        (ordered (lengths_say R l a.0) b.0 c.0 g.0, g.1)),
    (λ x.
        let o : Ordered R q l = x.0 in
        rw (
          eq-eqb _ _ o.periodics,
          eq-eqb _ _ o.triggers,
          eq-eqb _ _ o.waiting,
          eq-eqb _ _ o.events,
          le-leb _ _ o.instant,
          le-leb _ _ o.requests,
          judge_finds (sheet_in R) o.rows k x.1,
        ) refl),
  )

-- ---- the same in document 01's numbers, of the step's own outcome

-- number 8 at k
pub step_loops : (R : Rules) (q : Asked) (l : Lent) (v : Verdict) (a : Lent) → Outcome R q l v a → (k : ℕ) → (answered v ≡ record { number = 8; place = k; column = 0 }) ↔ (Ordered R q l × LoopAt (sheet_in R) k)
step_loops R q l v a o k =
    let x = step_loops_says R q l k in
    ((λ e. x.0 (sym o.judged ∙ answered_once v (refuse Loop k) e)), (λ y. ap answered (o.judged ∙ x.1 y)))

-- number 0, place 0
pub step_ok : (R : Rules) (q : Asked) (l : Lent) (v : Verdict) (a : Lent) → Outcome R q l v a → (answered v ≡ record { number = 0; place = 0; column = 0 }) ↔ (Ordered R q l × NoLoop (sheet_in R) × AllFit R.counts.roles q)
step_ok R q l v a o =
    let x = step_passes_says R q l in
    ((λ e. x.0 (sym o.judged ∙ answered_once v pass e)), (λ y. ap answered (o.judged ∙ x.1 y)))
