-- The outcome, put together from the verdicts of its parts and what was then done.
-- Assumes nothing.
use Rattle.std.specs.Prelude.{◌≡◌, refl, List, ℕ, ◌≤◌, Err}
use Rattle.std.proofs.Common.{sym, ap, ap₂, ◌∙◌}
use Rattle.theory.specs.Numbers.{LAST_INSTANT, REQUESTS}
use Rattle.answers.proofs.Laws.{no_pass}
use Rattle.answers.specs.declared.Refusal.{Refusal}
use Rattle.answers.specs.Answers.{and_then, Verdict, pass}
use Rattle.tables.specs.Asked.{Asked, flat}
use Rattle.tables.specs.Lent.{Rules, sheet_in, Lent}
use Rattle.table_judge.specs.declared.Judged.{Judged}
use Rattle.table_judge.specs.Judge.{judge_tables}
use Rattle.table_judge.specs.Judged.{judged}
use Rattle.requests.specs.Requests.{judge_requests}
use Rattle.instant.specs.Acted.{Acted}
use Rattle.step_tests.specs.Order.{judge_first}
use Rattle.step.specs.Outcome.{lengths_fit, judge_step, Outcome}
use Rattle.step.specs.Parts.{Sized, Inner}
use Rattle.step.proofs.Laws.Acted.{acted}
use Rattle.step.proofs.Laws.Passes.{first_says, step_parts, lengths_say, verdict_is, sound}

-- ---- by the tables and the requests

module _ (R : Rules) (q : Asked) (before : Lent) (j : Judged) (v w : Verdict) (e : j ≡ judged (sheet_in R)) (f : w ≡ judge_requests R.counts.roles q) (h : v ≡ and_then j.verdict w) where
  inner_verdict : v ≡ and_then (judge_tables (sheet_in R)) (judge_requests R.counts.roles q)
  inner_verdict = h ∙ ap₂ and_then (verdict_is R j e) f

  pub inner_passed : (after : Lent) → v ≡ pass → Sized before.waiting before.events → Acted R q j.levels before after → Inner R q before pass after
  inner_passed after p size x =
      record {
        judged = sym p ∙ inner_verdict;
        refused = λ r z. no_pass r (sym z);
        passed = λ _. acted R j.levels q before after size x (sound R q j v e (h ∙ ap (and_then j.verdict) f) p);
      }

  pub inner_refused : (r : Refusal) → v ≡ Err r → Inner R q before (Err r) before
  inner_refused r p = record { judged = sym p ∙ inner_verdict; refused = λ _ _. refl; passed = λ z. no_pass r z }

-- ---- by LENGTH, LAST and TOO MANY of requests

module _ (R : Rules) (asked : List ℕ) (n : ℕ) (before : Lent) (v : Verdict) (h : v ≡ judge_first (lengths_fit R before) before.instant n) where
  -- after a pass the instant is served, the buffers have their lengths, and the requests are few
  pub outer_ready : v ≡ pass → (before.instant ≤ LAST_INSTANT) × Sized before.waiting before.events
  outer_ready p =
      let s = first_says (lengths_fit R before) before.instant n (sym h ∙ p) in
      let l = lengths_say R before s.0 in
      (s.1, (l.waiting, l.events))

  pub outer_few : v ≡ pass → n ≤ REQUESTS
  outer_few p = (first_says (lengths_fit R before) before.instant n (sym h ∙ p)).2

  -- the tests that are left
  abbrev tests : Verdict
  tests = and_then (judge_tables (sheet_in R)) (judge_requests R.counts.roles (flat asked n))

  outer_verdict : (w : Verdict) → v ≡ w → and_then w tests ≡ judge_step R (flat asked n) before
  outer_verdict w p = sym (step_parts R (flat asked n) before ∙ ap (λ (x : Verdict). and_then x tests) (sym h ∙ p))

  pub outer_passed : (u : Verdict) (after : Lent) → v ≡ pass → Inner R (flat asked n) before u after → Outcome R (flat asked n) before u after
  unfolding and_then
  outer_passed u after p x = record { judged = x.judged ∙ outer_verdict pass p; refused = x.refused; passed = x.passed }

  pub outer_refused : (r : Refusal) → v ≡ Err r → Outcome R (flat asked n) before (Err r) before
  unfolding and_then
  outer_refused r p = record { judged = outer_verdict (Err r) p; refused = λ _ _. refl; passed = λ z. no_pass r z }
