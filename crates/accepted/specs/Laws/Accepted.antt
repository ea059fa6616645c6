-- What the reader accepts: the sheet that it hands out is in good order and has no loop, the lent tables have their lengths, and the judge of lent tables passes it.
-- At every line both tables have their length, and from the header on what was read so far is in good order (`Laws.SoFar`): a frame that passed KIND, TOO MANY and FIELD
-- keeps it so (`Laws.Kept`). After the last line LOOP is tested, and only a sheet without a loop is handed out.
-- Assumes nothing.
use Rattle.std.specs.Prelude.{◌≡◌, Bool, true, false, cond, List, length, Err, Ok}
use Rattle.std.proofs.Math.Path.{refl}
use Rattle.std.proofs.Common.{sym, ap, ◌∙◌, subst, arith}
use Rattle.std.proofs.Math.Logic.{⊎_elim}
use Prim.Native.Nat.{ℕ, ◌≤◌, ◌<◌}
use Rattle.std.proofs.Math.Dec.{ltb}
use Rattle.std.proofs.lemmas.List.{length-replicate}
use borrow.Author.Tests.{ltb-false}
use Rattle.theory.specs.Sheet.{Sheet, GoodOrder}
use Rattle.theory.specs.Graph.{NoLoop, LoopAt}
use Rattle.theory.specs.LoopTest.{PAIRS, loop_place}
use Rattle.theory.proofs.Laws.Tests.{test}
use Rattle.theory.proofs.Laws.Loop.{loop_or}
use Rattle.theory.proofs.Laws.OneSolution.{good_heads}
use Rattle.answers.specs.declared.Refusal.{Refusal}
use Rattle.text.specs.Lines.{lines}
use Rattle.tables.specs.declared.Counts.{Counts}
use Rattle.tables.specs.Layout.{PERIODIC_TABLE, TRIGGER_TABLE}
use Rattle.tables.specs.Lent.{rules, sheet_in}
use Rattle.line_readers.specs.Walks.{Going, goes, refused}
use Rattle.sheet_acts.specs.Acts.{Progress}
use Rattle.reader.specs.Lines.{reads}
use Rattle.table_judge.specs.Judge.{judge_tables}
use Rattle.table_judge.proofs.Laws.{judge_refuses_not}
use Rattle.reader.specs.Out.{ReadOutcome, read_outcome, sheet_read, out_by_loop, after_lines}
use Rattle.reader.proofs.Laws.Exact.{outcome_one}
use Rattle.reader.specs.Reading.{start, by_lines, sheet_lengths_fit, reading}
use Rattle.accepted.specs.Laws.SoFar.{SoFar}
use Rattle.accepted.specs.Laws.Lines.{read_so_far}
use Rattle.answers.specs.Answers.{pass}

-- before the first line
pub start_so_far : SoFar start
start_so_far = record { periodic_bytes = length-replicate {A = ℕ} PERIODIC_TABLE 0; trigger_bytes = length-replicate {A = ℕ} TRIGGER_TABLE 0; in_order = (refl, refl) }

-- a sheet in good order in which the loop test finds nothing has no loop
no_loop : (sh : Sheet) → GoodOrder sh → PAIRS ≤ loop_place sh → NoLoop sh
no_loop sh g h =
    ⊎_elim
    (λ (x : (loop_place sh ≡ PAIRS) × NoLoop sh). x.1)
    (λ (y : (loop_place sh < PAIRS) × LoopAt sh (loop_place sh)). absurd (omega (arith, h, y.0)))
    (loop_or sh (good_heads sh g))

module _ (p t : List ℕ) (r : Counts) (p' t' : List ℕ) where
  -- what comes back of an accepted sheet
  abbrev accepted : ReadOutcome
  accepted = read_outcome (Ok r) p' t'

  -- a refusal is no acceptance
  not_bad : {C : Type 0} (x : Refusal) → read_outcome (Err x) p t ≡ accepted → C
  not_bad x e = let q : Err x ≡ Ok r = (outcome_one (Err x) (Ok r) p p' t t' e).0 in absurd (let w : ◌≡◌ {A = ℕ} 0 1 = cc in omega arith)

  -- where a test that must hold does not, there is a refusal
  cond_accepted : (b : Bool) (o : ReadOutcome) (x : Refusal) → cond b o (read_outcome (Err x) p t) ≡ accepted → o ≡ accepted
  cond_accepted true o x e = e
  cond_accepted false o x e = not_bad x e

  -- the lines went on to their end, LOOP was not found, and what was read is what is handed out
  record From (s : Progress) : Type 0 where
    loopless : PAIRS ≤ loop_place (sheet_read s)
    is_read : s.seen.counts ≡ r
    is_periodic : s.tables.periodics ≡ p'
    is_triggers : s.tables.triggers ≡ t'

  by_loop : (s : Progress) → after_lines s p t ≡ accepted → From s
  unfolding out_by_loop
  by_loop s e =
      let k : ℕ = loop_place (sheet_read s) in
      ⊎_elim
      (λ (b : ltb k PAIRS ≡ true). not_bad _ (rw b at e))
      (λ (b : ltb k PAIRS ≡ false).
      let q = outcome_one (Ok s.seen.counts) (Ok r) s.tables.periodics p' s.tables.triggers t' (rw b at e) in
      let g : Ok s.seen.counts ≡ Ok r = q.0 in
      record { loopless = ltb-false k PAIRS b; is_read = cc; is_periodic = q.1; is_triggers = q.2 })
      (test (ltb k PAIRS))

  by_reads : (x : Going Progress) → by_lines x p t ≡ accepted → (s : Progress) × (x ≡ goes s) × From s
  unfolding by_lines
  by_reads (goes s) e = (s, refl, by_loop s e)
  by_reads (refused x) e = not_bad x e

module _ (sheet p t : List ℕ) (r : Counts) (p' t' : List ℕ) (e : reading sheet p t ≡ read_outcome (Ok r) p' t') where
  -- the sheet that is handed out
  abbrev sh : Sheet
  sh = sheet_in (rules r p' t')

  went : (s : Progress) × (reads (goes start) (lines sheet) ≡ goes s) × From p t r p' t' s
  unfolding reading
  went = by_reads p t r p' t' (reads (goes start) (lines sheet)) (cond_accepted p t r p' t' (sheet_lengths_fit (length sheet) (length p) (length t)) _ _ e)

  read : SoFar went.0 × GoodOrder (sheet_read went.0)
  read = read_so_far went.0 start (lines sheet) start_so_far went.1

  is_sheet : sheet_read went.0 ≡ sh
  is_sheet =
      let w = went.2 in
      λ i. sheet_in (rules (w.is_read i) (w.is_periodic i) (w.is_triggers i))

  -- THE THEOREM: what the reader accepts is in good order and has no loop
  pub reading_good : GoodOrder sh × NoLoop sh
  reading_good =
      let g : GoodOrder (sheet_read went.0) = read.1 in
      subst (λ (x : Sheet). GoodOrder x × NoLoop x) is_sheet (g, no_loop (sheet_read went.0) g went.2.loopless)

  -- the tables that it fills keep their lengths
  pub reading_sizes : (length p' ≡ PERIODIC_TABLE) × (length t' ≡ TRIGGER_TABLE)
  reading_sizes = (sym (ap length went.2.is_periodic) ∙ read.0.periodic_bytes, sym (ap length went.2.is_triggers) ∙ read.0.trigger_bytes)

  -- and the judge of lent tables passes them, as a step will ask
  pub reading_passes : judge_tables sh ≡ pass
  reading_passes = judge_refuses_not sh reading_good.0 reading_good.1
