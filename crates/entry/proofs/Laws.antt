-- Laws of listed requests: what the flat numbers hold as records are put in, and that an outcome goes by how many requests there are and by those below 32.
-- Assumes nothing.
use Rattle.std.specs.Prelude.{◌≡◌, true, false, ◌&&◌, List, ℕ, ◌+◌, ◌≤◌, ◌<◌, min, length, get_or}
use Rattle.std.proofs.Math.Path.{refl, ap, fun_ext}
use Rattle.std.proofs.Common.{sym, ◌∙◌, subst, arith, leb-true}
use Rattle.std.proofs.Math.Logic.{⊎_elim}
use Rattle.std.proofs.Math.Bool.{Bool, not, cond}
use Rattle.std.proofs.Math.Dec.{leb, eqb}
use Rattle.theory.specs.Numbers.{LAST_INSTANT, REQUESTS}
use Rattle.theory.specs.Below.{first_below}
use Rattle.theory.specs.Sheet.{is}
use Rattle.theory.specs.Box.{Step}
use Rattle.theory.specs.Instant.{Requests}
use Rattle.theory.proofs.Laws.Tests.{test}
use Rattle.theory.proofs.Laws.Below.{below_cases, any_same}
use Rattle.theory.proofs.Laws.First.{first_same}
use Rattle.answers.specs.declared.Name.TheVariants.{Length, TooMany, Last}
use Rattle.answers.specs.Answers.{refuse, and_then, Verdict}
use Rattle.tables.specs.Buffers.{events_of}
use Rattle.tables.specs.Asked as lent
use Rattle.tables.specs.Asked.{Asked, request_at, flat, asks}
use Rattle.tables.specs.Lent.{Rules, sheet_in, Lent, state_in}
use Rattle.table_judge.specs.Judge.{judge_tables}
use Rattle.requests.specs.declared.Request.{Request}
use Rattle.requests.specs.Asked.{request_of}
use Rattle.requests.specs.Requests.{fits, first_outside, judge_requests}
use Rattle.requests.specs.Flat.{FLAT_NUMBERS, put_at}
use Rattle.requests.specs.Laws.Flat.{put_before, put_here}
use Rattle.step.specs.Outcome.{lengths_fit, judge_step, Outcome}
use Rattle.step.proofs.Laws.Passes.{step_passes}
use Rattle.entry.specs.Listed.{none, listed, Holds}
pub mod Exact

-- ---- the flat numbers hold the first i records: none, one more, all

pub holds_none : (rs : List Request) (l : List ℕ) → Holds 0 rs l
holds_none rs l k h = absurd (omega arith)

pub holds_next : (rs : List Request) (i : ℕ) (l : List ℕ) → length l ≡ FLAT_NUMBERS → i < REQUESTS → Holds i rs l → Holds (i + 1) rs (put_at l i (request_of (get_or rs i none)))
holds_next rs i l n s h k m =
    let r : lent.Request = request_of (get_or rs i none) in
    ⊎_elim
    (λ (e : k ≡ i). subst (λ (j : ℕ). request_at (put_at l i r) j ≡ request_of (get_or rs j none)) (sym e) (put_here l i r n s))
    (λ (b : k < i). put_before l i r k b ∙ h k b)
    (below_cases (omega arith))

pub holds_end : (rs : List Request) (n i : ℕ) (l : List ℕ) → i ≤ n → n ≤ i → Holds i rs l → Holds n rs l
holds_end rs n i l a b h k m = h k (omega arith)

-- ---- an outcome goes by the number of requests, and by the first 32 of them

-- n requests, once as f and once as g has them, which are alike below n and below 32
module _ (n : ℕ) (f g : ℕ → lent.Request) (same : (k : ℕ) → k < n → k < REQUESTS → f k ≡ g k) where
  abbrev q : Asked
  q = record { count = n; request = f }

  abbrev q' : Asked
  q' = record { count = n; request = g }

  alike_asks : n ≤ REQUESTS → asks q ≡ asks q'
  unfolding asks
  alike_asks few =
      fun_ext (λ d. fun_ext (λ e. fun_ext (λ p.
      let asked : lent.Request → Bool = λ r. eqb r.delay d && is r.event r.priority e p in
      any_same n (λ k. asked (f k)) (λ k. asked (g k)) (λ k l. ap asked (same k l (omega arith))))))

  alike_judged : n ≤ REQUESTS → (role_count : ℕ) → judge_requests role_count q ≡ judge_requests role_count q'
  unfolding judge_requests first_outside
  alike_judged few role_count =
      let outside : lent.Request → Bool = λ r. not (fits role_count r) in
      let e : first_below n (λ k. outside (f k)) ≡ first_below n (λ k. outside (g k)) = first_same n _ _ (λ k l. ap outside (same k l (omega arith))) in
      rw e refl

  alike_verdict : (R : Rules) (before : Lent) → judge_step R q before ≡ judge_step R q' before
  unfolding judge_step
  alike_verdict R before =
      let tests : Asked → Verdict = λ x. and_then (judge_tables (sheet_in R)) (judge_requests R.counts.roles x) in
      let inner : cond (leb n REQUESTS) (tests q) (refuse TooMany 0) ≡ cond (leb n REQUESTS) (tests q') (refuse TooMany 0) =
      ⊎_elim
      (λ (t : leb n REQUESTS ≡ true). rw t (ap (and_then (judge_tables (sheet_in R))) (alike_judged (leb-true _ _ t) R.counts.roles)))
      (λ (o : leb n REQUESTS ≡ false). rw o refl)
      (test (leb n REQUESTS)) in
      ap (λ (v : Verdict). cond (lengths_fit R before) (cond (leb before.instant LAST_INSTANT) v (refuse Last 0)) (refuse Length 0)) inner

  outcome_alike : (R : Rules) (before : Lent) (v : Verdict) (after : Lent) → Outcome R q before v after → Outcome R q' before v after
  outcome_alike R before v after x =
      record {
        judged = x.judged ∙ alike_verdict R before;
        refused = x.refused;
        passed = λ p.
            let s = x.passed p in
            let few : n ≤ REQUESTS = (step_passes R q before (sym x.judged ∙ p)).few in
            record {
              step = subst (λ (r : Requests). Step (sheet_in R) r (state_in before) (events_of after.events) (state_in after)) (alike_asks few) s.step;
              waiting_size = s.waiting_size;
              events_size = s.events_size;
            };
      }

-- THE LAW: what a step makes of flat numbers that hold the first 32 records of a list, with the list's length, it makes of the list
pub outcome_listed : (R : Rules) (rs : List Request) (l : List ℕ) → Holds (min (length rs) REQUESTS) rs l
    → (before : Lent) (v : Verdict) (after : Lent) → Outcome R (flat l (length rs)) before v after → Outcome R (listed rs) before v after
outcome_listed R rs l h = outcome_alike (length rs) (request_at l) (λ k. request_of (get_or rs k none)) (λ k a b. h k (omega arith)) R
