-- Unused rows, and the places of a trigger past its counts, are ignored: under the same sheet a step has the same outcome.
-- The rows are judged alike. Where they pass, the counts of each trigger are within their limits, and the two sheets are the same in all that is used.
-- Assumes nothing.
use Rattle.std.specs.Prelude.{◌≡◌, refl, ◌↔◌, ℕ, ltb, length, Err}
use Rattle.std.proofs.Common.{sym, ◌∙◌, ⊎_elim}
use Rattle.std.proofs.Math.Path.{ap, ap₂}
use Rattle.std.proofs.Math.Bool.{cond}
use Rattle.theory.specs.Sheet.{Sheet, periodic_fits, trigger_fits, GoodOrder}
use Rattle.theory.specs.LoopTest.{PAIRS}
use Rattle.theory.specs.Used.{SameUsed}
use Rattle.theory.proofs.Laws.OneSolution.{good_trigger}
use Rattle.theory.proofs.Laws.Used.{loop_place_used, step_used}
use Rattle.answers.specs.declared.Name.TheVariants.{Loop}
use Rattle.answers.specs.declared.Refusal.{Refusal}
use Rattle.answers.specs.Answers.{refuse, Verdict, pass}
use Rattle.tables.specs.declared.Counts.{Counts}
use Rattle.tables.specs.Layout.{sheet_of, trigger_at}
use Rattle.tables.specs.Buffers.{events_of}
use Rattle.tables.specs.Asked.{Asked, asks}
use Rattle.tables.proofs.Laws.Used.{periodics_turned, periodic_same, trigger_same, trigger_fits_same, triggers_turned}
use Rattle.tables.specs.Lent.{Rules, sheet_in, Lent, state_in}
use Rattle.row_judge.specs.Judge.{judge_rows}
use Rattle.row_judge.proofs.Laws.{rows_same}
use Rattle.table_judge.specs.Judge.{judge_loop, judge_tables}
use Rattle.table_judge.specs.Says.{Says}
use Rattle.table_judge.proofs.Laws.{rows_say}
use Rattle.table_judge.proofs.Laws.Answer.{tables_refused, tables_loop}
use Rattle.step_tests.specs.Order.{exact_lengths}
use Rattle.step.specs.Outcome.{lengths_fit, judge_step, Outcome}
use Rattle.tables.specs.Used.{SameRules}
use Rattle.step.proofs.Laws.Exact.{accepted, step_exact}

-- every sheet is the same as itself
pub rules_itself : (R : Rules) → SameRules R R
rules_itself R =
    record {
      counts = refl;
      periodics = record { size = refl; bytes = λ k l. refl };
      triggers = record { size = refl; bytes = λ i k l b u. refl };
    }

-- and it goes both ways
pub rules_turned : (R R' : Rules) → SameRules R R' → SameRules R' R
rules_turned R R' s =
    record {
      counts = sym s.counts;
      periodics = periodics_turned R'.counts.periodics R.tables.periodics R'.tables.periodics (rw s.counts at s.periodics);
      triggers = triggers_turned R'.counts.triggers R.tables.triggers R'.tables.triggers (rw s.counts at s.triggers);
    }

module _ (R R' : Rules) (s : SameRules R R') where
  abbrev sh : Sheet
  sh = sheet_in R

  abbrev sh' : Sheet
  sh' = sheet_in R'

  role_count : R.counts.roles ≡ R'.counts.roles
  role_count = ap (λ (n : Counts). n.roles) s.counts

  periodic_count : R.counts.periodics ≡ R'.counts.periodics
  periodic_count = ap (λ (n : Counts). n.periodics) s.counts

  trigger_count : R.counts.triggers ≡ R'.counts.triggers
  trigger_count = ap (λ (n : Counts). n.triggers) s.counts

  -- ---- the verdict

  lengths_used : (l : Lent) → lengths_fit R l ≡ lengths_fit R' l
  unfolding lengths_fit
  lengths_used l = ap₂ (λ (m n : ℕ). exact_lengths m n (length l.waiting) (length l.events)) s.periodics.size s.triggers.size

  rows_used : judge_rows sh ≡ judge_rows sh'
  unfolding sheet_of
  rows_used =
      rows_same sh sh' role_count periodic_count trigger_count
      (λ i l. ap₂ periodic_fits role_count (periodic_same R.counts.periodics R.tables.periodics R'.tables.periodics s.periodics i l))
      (λ i l.
      trigger_fits_same R.counts.triggers R.tables.triggers R'.tables.triggers s.triggers i l R.counts.roles
      ∙ ap (λ (n : ℕ). trigger_fits n (trigger_at R'.tables.triggers i)) role_count)

  -- rows in good order are the same in all that is used
  sheets_used : GoodOrder sh → SameUsed sh sh'
  unfolding sheet_of
  sheets_used good =
      record {
        role_count = role_count;
        periodic_count = periodic_count;
        trigger_count = trigger_count;
        periodics = periodic_same R.counts.periodics R.tables.periodics R'.tables.periodics s.periodics;
        triggers = λ i l.
            let w = good_trigger sh good i l in
            trigger_same R.counts.triggers R.tables.triggers R'.tables.triggers s.triggers i l w.few_events w.few_conditions;
      }

  loops_used : GoodOrder sh → judge_loop sh ≡ judge_loop sh'
  unfolding judge_loop
  loops_used good =
      let u : SameUsed sh sh' = sheets_used good in
      ap (λ (k : ℕ). cond (ltb k PAIRS) (refuse Loop k) pass) (loop_place_used sh sh' u.trigger_count u.triggers)

  pub tables_used : judge_tables sh ≡ judge_tables sh'
  tables_used =
      ⊎_elim
      (λ (x : (judge_rows sh ≡ pass) × GoodOrder sh). tables_loop sh x.0 ∙ (loops_used x.1 ∙ sym (tables_loop sh' (sym rows_used ∙ x.0))))
      (λ (y : (r : Refusal) × (judge_rows sh ≡ Err r) × Says sh (Err r)). tables_refused sh y.0 y.1 ∙ sym (tables_refused sh' y.0 (sym rows_used ∙ y.1)))
      (rows_say sh)

  judged_used : (q : Asked) (l : Lent) → judge_step R q l ≡ judge_step R' q l
  unfolding judge_step
  judged_used q l = rw (lengths_used l, tables_used, role_count)

  -- ---- the outcome

  also_allows : (q : Asked) (before : Lent) (v : Verdict) (after : Lent) → Outcome R q before v after → Outcome R' q before v after
  also_allows q before v after o =
      record {
        judged = o.judged ∙ judged_used q before;
        refused = o.refused;
        passed = λ p.
            let good : GoodOrder sh = (accepted R q before (sym o.judged ∙ p)).0 in
            let x = o.passed p in
            record {
              step = step_used sh sh' (sheets_used good) (asks q) (state_in before) (events_of after.events) (state_in after) x.step;
              waiting_size = x.waiting_size;
              events_size = x.events_size;
            };
      }

-- THE LAW: under the same sheet the contract of a step allows the same
pub outcome_used : (R R' : Rules) → SameRules R R' → (q : Asked) (before : Lent) (v : Verdict) (after : Lent) → Outcome R q before v after ↔ Outcome R' q before v after
outcome_used R R' s q before v after = (also_allows R R' s q before v after, also_allows R' R (rules_turned R R' s) q before v after)

-- and so two steps with the same used rows, counts, state and requests have the same outcome
pub used_exact : (R R' : Rules) → SameRules R R' → (q : Asked) (before : Lent) (v v' : Verdict) (a a' : Lent) → Outcome R q before v a → Outcome R' q before v' a' → (v ≡ v') × (a ≡ a')
used_exact R R' s q before v v' a a' x y = step_exact R' q before v v' a a' ((outcome_used R R' s q before v a).0 x) y
