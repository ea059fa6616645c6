-- What a pass says: the lengths, the instant, the number of requests, the tables and each request.
-- Assumes nothing.
use Rattle.std.specs.Prelude.{◌≡◌, refl, Bool, true, false, cond, ◌&&◌, ℕ, ◌≤◌, leb, eqb, length}
use Rattle.std.proofs.Common.{sym, ap, ◌∙◌, subst, ⊎_elim, leb-true, le-leb, eqb-true, eq-eqb}
use Rattle.theory.specs.Numbers.{EVENTS, LAST_INSTANT, REQUESTS, WAITING_NUMBERS}
use Rattle.theory.proofs.Laws.Tests.{and_left, and_right, test}
use Rattle.theory.specs.Graph.{Levels}
use Rattle.answers.specs.declared.Name.TheVariants.{Length, TooMany, Last}
use Rattle.answers.proofs.Laws.{cond_pass, both_pass}
use Rattle.answers.specs.Answers.{refuse, and_then, Verdict, pass}
use Rattle.tables.specs.Layout.{byte_at, PERIODIC_TABLE, TRIGGER_TABLE}
use Rattle.tables.specs.Asked.{Asked}
use Rattle.tables.specs.Lent.{Rules, sheet_in, Lent}
use Rattle.table_judge.specs.Judge.{judge_tables}
use Rattle.table_judge.specs.declared.Judged.{Judged}
use Rattle.table_judge.specs.Judged.{judged}
use Rattle.table_judge.proofs.Laws.{judge_passes, judged_levels}
use Rattle.requests.specs.Requests.{judge_requests}
use Rattle.requests.specs.Laws.{requests_pass}
use Rattle.step_tests.specs.Order.{exact_lengths, judge_first}
use Rattle.step.specs.Outcome.{lengths_fit, judge_step}
use Rattle.step.specs.Parts.{Sound}

-- ---- the tests before the tables

pub first_says : (fit : Bool) (t n : ℕ) → judge_first fit t n ≡ pass → (fit ≡ true) × (t ≤ LAST_INSTANT) × (n ≤ REQUESTS)
unfolding judge_first
first_says fit t n h =
    let a = cond_pass fit _ _ _ h in
    let b = cond_pass (leb t LAST_INSTANT) _ _ _ a.1 in
    let c = cond_pass (leb n REQUESTS) _ _ _ b.1 in
    (a.0, leb-true t LAST_INSTANT b.0, leb-true n REQUESTS c.0)

-- the verdict in two parts
parted : (fit : Bool) (t n : ℕ) (v : Verdict) → and_then (judge_first fit t n) v ≡ cond fit (cond (leb t LAST_INSTANT) (cond (leb n REQUESTS) v (refuse TooMany 0)) (refuse Last 0)) (refuse Length 0)
unfolding and_then judge_first
parted true t n v =
    ⊎_elim
    (λ (h : leb t LAST_INSTANT ≡ true).
    rw h (⊎_elim (λ (k : leb n REQUESTS ≡ true). rw k refl) (λ (k : leb n REQUESTS ≡ false). rw k refl) (test (leb n REQUESTS))))
    (λ (h : leb t LAST_INSTANT ≡ false). rw h refl)
    (test (leb t LAST_INSTANT))
parted false t n v = refl

pub step_parts : (R : Rules) (q : Asked) (l : Lent)
    → judge_step R q l ≡ and_then (judge_first (lengths_fit R l) l.instant q.count) (and_then (judge_tables (sheet_in R)) (judge_requests R.counts.roles q))
unfolding judge_step
step_parts R q l = sym (parted (lengths_fit R l) l.instant q.count (and_then (judge_tables (sheet_in R)) (judge_requests R.counts.roles q)))

-- ---- the lengths

pub record Lengths (R : Rules) (l : Lent) : Type 0 where
  pub periodics : length R.tables.periodics ≡ PERIODIC_TABLE
  pub triggers : length R.tables.triggers ≡ TRIGGER_TABLE
  pub waiting : length l.waiting ≡ WAITING_NUMBERS
  pub events : length l.events ≡ EVENTS

pub lengths_say : (R : Rules) (l : Lent) → lengths_fit R l ≡ true → Lengths R l
unfolding lengths_fit exact_lengths
lengths_say R l h =
    let a = eqb (length R.tables.periodics) PERIODIC_TABLE in
    let b = eqb (length R.tables.triggers) TRIGGER_TABLE in
    let c = eqb (length l.waiting) WAITING_NUMBERS in
    let d = eqb (length l.events) EVENTS in
    let x = and_left (a && b) (c && d) h in
    let y = and_right (a && b) (c && d) h in
    record {
      periodics = eqb-true _ _ (and_left a b x);
      triggers = eqb-true _ _ (and_right a b x);
      waiting = eqb-true _ _ (and_left c d y);
      events = eqb-true _ _ (and_right c d y);
    }

-- ---- a whole pass

pub record StepAccepted (R : Rules) (q : Asked) (l : Lent) : Type 0 where
  pub lengths : Lengths R l
  pub served : l.instant ≤ LAST_INSTANT
  pub few : q.count ≤ REQUESTS
  pub tables : judge_tables (sheet_in R) ≡ pass
  pub requests : judge_requests R.counts.roles q ≡ pass

pub step_passes : (R : Rules) (q : Asked) (l : Lent) → judge_step R q l ≡ pass → StepAccepted R q l
unfolding judge_step
step_passes R q l h =
    let a = cond_pass (lengths_fit R l) _ _ _ h in
    let b = cond_pass (leb l.instant LAST_INSTANT) _ _ _ a.1 in
    let c = cond_pass (leb q.count REQUESTS) _ _ _ b.1 in
    let d = both_pass (judge_tables (sheet_in R)) (judge_requests R.counts.roles q) c.1 in
    record { lengths = lengths_say R l a.0; served = leb-true _ _ b.0; few = leb-true _ _ c.0; tables = d.0; requests = d.1 }

-- and the other way round: what has all of that passes
pub step_accepts : (R : Rules) (q : Asked) (l : Lent) → StepAccepted R q l → judge_step R q l ≡ pass
unfolding judge_step lengths_fit exact_lengths and_then
step_accepts R q l a =
    let n = a.lengths in
    rw (
      eq-eqb _ _ n.periodics,
      eq-eqb _ _ n.triggers,
      eq-eqb _ _ n.waiting,
      eq-eqb _ _ n.events,
      le-leb _ _ a.served,
      le-leb _ _ a.few,
      a.tables,
    ) a.requests

-- ---- what the judge hands on

pub verdict_is : (R : Rules) (j : Judged) → j ≡ judged (sheet_in R) → j.verdict ≡ judge_tables (sheet_in R)
unfolding judged
verdict_is R j e = ap (λ (x : Judged). x.verdict) e

pub sound : (R : Rules) (q : Asked) (j : Judged) (v : Verdict) → j ≡ judged (sheet_in R) → v ≡ and_then j.verdict (judge_requests R.counts.roles q) → v ≡ pass → Sound R j.levels q
sound R q j v e h p =
    let w : j.verdict ≡ judge_tables (sheet_in R) = verdict_is R j e in
    let b = both_pass j.verdict (judge_requests R.counts.roles q) (sym h ∙ p) in
    let t : judge_tables (sheet_in R) ≡ pass = sym w ∙ b.0 in
    record {
      good = (judge_passes (sheet_in R) t).0;
      rule = subst (λ (x : Judged). Levels (sheet_in R) (byte_at x.levels)) (sym e) (judged_levels (sheet_in R) t);
      fit = requests_pass R.counts.roles q b.1;
    }
