-- Laws of the whole answer by the verdict on the rows, and of its part that the loop test gives.
-- Assumes nothing.
use Rattle.std.specs.Prelude.{◌≡◌, List, ltb, replicate, Err}
use Rattle.std.proofs.Math.Path.{refl, ap₂}
use Rattle.std.proofs.Common.{sym, ap, ◌∙◌}
use Rattle.std.proofs.Math.Bool.{cond}
use Prim.Native.Nat.{ℕ}
use Rattle.theory.specs.Numbers.{EVENTS}
use Rattle.theory.specs.Sheet.{Sheet}
use Rattle.theory.specs.LoopTest.{PAIRS}
use Rattle.theory.proofs.Laws.Used.{trigger_itself, loop_place_used, level_used}
use Rattle.answers.specs.declared.Name.TheVariants.{Loop}
use Rattle.answers.specs.declared.Refusal.{Refusal}
use Rattle.answers.specs.Answers.{refuse, and_then, Verdict, pass}
use Rattle.tables.specs.Layout.{trigger_at, sheet_of, triggers_of}
use Rattle.tables.specs.Lent.{Rules, sheet_in}
use Rattle.loops.specs.Tested.{tabulate, tested}
use Rattle.loops.specs.declared.Tested.{Tested}
use Rattle.row_judge.specs.Judge.{judge_rows}
use Rattle.table_judge.specs.Judge.{judge_loop, judge_tables}
use Rattle.table_judge.specs.declared.Judged.{Judged}
use Rattle.table_judge.specs.Judged.{levels_after, judged, loop_verdict, loop_judged}
use Rattle.table_judge.proofs.Laws.Found.{loop_verdict_is}

-- what the loop test answers, with its verdict
pub loop_judged_is : (sh : Sheet) (v : Verdict) (t : Tested) → t ≡ tested sh → v ≡ loop_verdict t.found → ◌≡◌ {A = Judged} (record { verdict = v; levels = t.levels }) (loop_judged sh)
unfolding loop_judged tested
loop_judged_is sh v t e q =
    let x : v ≡ judge_loop sh = q ∙ ap (λ (t : Tested). loop_verdict t.found) e ∙ loop_verdict_is sh in
    ap₂ (λ (v : Verdict) (l : List ℕ). record { verdict = v; levels = l }) x (ap (λ (t : Tested). t.levels) e)

-- ---- by the verdict on the rows

module _ (sh : Sheet) where
  pub tables_refused : (r : Refusal) → judge_rows sh ≡ Err r → judge_tables sh ≡ Err r
  unfolding judge_tables and_then
  tables_refused r e = rw e refl

  pub tables_loop : judge_rows sh ≡ pass → judge_tables sh ≡ judge_loop sh
  unfolding judge_tables and_then
  tables_loop e = rw e refl

  judged_refused : (r : Refusal) → judge_rows sh ≡ Err r → judged sh ≡ record { verdict = Err r; levels = replicate EVENTS 0 }
  unfolding judged levels_after judge_tables and_then
  judged_refused r e = rw e refl

  pub judged_loop : judge_rows sh ≡ pass → judged sh ≡ loop_judged sh
  unfolding judged levels_after loop_judged judge_tables and_then
  judged_loop e = rw e refl

-- ---- of tables, where the loop test looks at the triggers alone

module _ (R : Rules) where
  abbrev triggers : List ℕ
  triggers = R.tables.triggers

  -- the triggers alone
  abbrev alone : Sheet
  alone = triggers_of R.counts.triggers triggers

  loop_judged_same : loop_judged alone ≡ loop_judged (sheet_in R)
  unfolding loop_judged judge_loop sheet_of
  loop_judged_same =
      ap₂
      (λ (k : ℕ) (f : ℕ → ℕ). record { verdict = cond (ltb k PAIRS) (refuse Loop k) pass; levels = tabulate EVENTS f })
      (loop_place_used alone (sheet_in R) refl (λ i l. trigger_itself (trigger_at triggers i)))
      (level_used alone (sheet_in R) refl (λ i l. trigger_itself (trigger_at triggers i)))

  module _ (v : Verdict) (e : v ≡ judge_rows (sheet_in R)) where
    pub rows_refused : (r : Refusal) → v ≡ Err r → record { verdict = Err r; levels = replicate EVENTS 0 } ≡ judged (sheet_in R)
    rows_refused r f = sym (judged_refused (sheet_in R) r (sym e ∙ f))

    pub rows_passed : v ≡ pass → (r : Judged) → r ≡ loop_judged alone → r ≡ judged (sheet_in R)
    rows_passed f r g = g ∙ loop_judged_same ∙ sym (judged_loop (sheet_in R) (sym e ∙ f))
