-- Laws of the end of a reading: what the judge of the loop makes of what was read.
-- Assumes nothing.
use Rattle.std.specs.Prelude.{◌≡◌, true, false, List, ℕ, Err, Ok}
use Rattle.std.proofs.Math.Path.{refl, sym, ap}
use Rattle.std.proofs.Common.{◌∙◌}
use Rattle.std.proofs.Math.Logic.{⊎_elim}
use Rattle.std.proofs.Math.Bool.{cond}
use Rattle.std.proofs.Math.Dec.{ltb}
use Rattle.theory.specs.LoopTest.{PAIRS, loop_place}
use Rattle.theory.proofs.Laws.Tests.{test}
use Rattle.theory.proofs.Laws.Used.{trigger_itself, loop_place_used}
use Rattle.answers.specs.declared.Refusal.{Refusal}
use Rattle.answers.specs.declared.Name.TheVariants.{Loop}
use Rattle.answers.specs.Answers.{refusal, refuse, pass}
use Rattle.answers.proofs.Laws.{no_pass}
use Rattle.tables.specs.Layout.{trigger_at, sheet_of, triggers_of}
use Rattle.table_judge.specs.declared.Judged.{Judged}
use Rattle.table_judge.specs.Judge.{judge_loop}
use Rattle.table_judge.specs.Judged.{loop_judged}
use Rattle.sheet_tests.specs.declared.Seen.{Seen}
use Rattle.sheet_acts.specs.Acts.{progress}
use Rattle.reader.specs.Out.{read_outcome, sheet_read, out_by_loop, after_lines}

-- the answer of the judge of the loop, on the triggers that were read
module _ (s : Seen) (per trg p t : List ℕ) (j : Judged) (is : j ≡ loop_judged (triggers_of s.counts.triggers trg)) where
  abbrev k : ℕ
  k = loop_place (sheet_read (progress s per trg))

  -- it looks at the triggers alone
  same_place : loop_place (triggers_of s.counts.triggers trg) ≡ k
  unfolding sheet_of
  same_place = loop_place_used (triggers_of s.counts.triggers trg) (sheet_read (progress s per trg)) refl (λ i l. trigger_itself (trigger_at trg i))

  -- its verdict is LOOP at that place, or a pass
  judges : j.verdict ≡ cond (ltb k PAIRS) (refuse Loop k) pass
  unfolding loop_judged judge_loop
  judges = ap (λ (x : Judged). x.verdict) is ∙ ap (λ (n : ℕ). cond (ltb n PAIRS) (refuse Loop n) pass) same_place

  pub passed_out : j.verdict ≡ pass → read_outcome (Ok s.counts) per trg ≡ after_lines (progress s per trg) p t
  unfolding out_by_loop
  passed_out e =
      ⊎_elim
      (λ (h : ltb k PAIRS ≡ true). no_pass (refusal Loop k) (sym (rw h at judges) ∙ e))
      (λ (h : ltb k PAIRS ≡ false). rw h refl)
      (test (ltb k PAIRS))

  pub refused_out : (r : Refusal) → j.verdict ≡ Err r → read_outcome (Err r) p t ≡ after_lines (progress s per trg) p t
  unfolding out_by_loop
  refused_out r e =
      ⊎_elim
      (λ (h : ltb k PAIRS ≡ true).
      let g : refuse Loop k ≡ Err r = sym (rw h at judges) ∙ e in
      let q : r ≡ refusal Loop k = cc in
      rw h (ap (λ (x : Refusal). read_outcome (Err x) p t) q))
      (λ (h : ltb k PAIRS ≡ false). no_pass r (sym e ∙ (rw h at judges)))
      (test (ltb k PAIRS))
