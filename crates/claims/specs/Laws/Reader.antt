-- The reader is exact on loops. A sheet that reads in good order is refused with LOOP at the place of its loop, or accepted where it has none; and no other sheet is either,
-- for no test of a line gives LOOP.
-- Assumes nothing.
use Rattle.std.specs.Prelude.{◌≡◌, ◌⊎◌, ◌↔◌, Bool, true, false, cond, List, ℕ, ◌+◌, ◌<◌, length, Err, Ok, Result}
use Rattle.std.proofs.Math.Path.{refl}
use Rattle.std.proofs.Common.{sym, ap, ◌∙◌, subst, arith, lt-ltb, le-ltb}
use Rattle.std.proofs.Math.Logic.{inl, inr, ⊎_elim}
use Rattle.theory.specs.Sheet.{GoodOrder}
use Rattle.theory.specs.Graph.{NoLoop, LoopAt}
use Rattle.theory.specs.LoopTest.{PAIRS, loop_place}
use Rattle.theory.proofs.Laws.Tests.{test}
use Rattle.theory.proofs.Laws.Loop.{loop_or, loop_not, loop_one}
use Rattle.theory.proofs.Laws.OneSolution.{good_heads}
use Rattle.answers.specs.declared.Name.{Name}
use Rattle.answers.specs.declared.Name.TheVariants.{Length, Frame, Check, Kind, Field, TooMany, Count, Loop}
use Rattle.answers.specs.declared.Refusal.{Refusal}
use Rattle.answers.specs.declared.Answer.{Answer}
use Rattle.line_readers.specs.declared.Tests.{Tests}
use Rattle.answers.specs.Answers.{number_of, answered, refuse, refusal, Verdict, pass}
use Rattle.line_readers.specs.Order.{in_order}
use Rattle.line_readers.specs.Column.{located}
use Rattle.text.specs.Lines.{Lines, none, endless, line, lines}
use Rattle.frames.specs.Frame.{bytes_of}
use Rattle.line_readers.specs.Walks.{Going, goes, refused, by_verdict, walks}
use Rattle.kinds.specs.declared.Stage.{Stage}
use Rattle.kinds.specs.declared.Stage.TheVariants.{Start, Rows, Ended}
use Rattle.sheet_tests.specs.declared.Seen.{Seen}
use Rattle.sheet_tests.specs.Judge.{line_tests, line_field, judge_line}
use Rattle.sheet_acts.specs.Acts.{Progress, after}
use Rattle.reader.specs.Line.{line_step}
use Rattle.reader.specs.Lines.{at_end, reads}
use Rattle.reader.specs.Answer.{verdict_of}
use Rattle.reader.specs.Out.{ReadOutcome, read_outcome, sheet_read, out_by_loop, after_lines}
use Rattle.reader.specs.Reading.{start, by_lines, sheet_lengths_fit, reading}
use Rattle.accepted.specs.Laws.Accepted.{start_so_far}
use Rattle.accepted.specs.Laws.Lines.{read_so_far}
use Rattle.claims.specs.Words.{ReadsInOrder}
use Rattle.claims.specs.Laws.Numbers.{not_ok}
use Rattle.tables.specs.declared.Counts.{Counts}

-- ---- no test of a line gives LOOP

-- a verdict is not LOOP
abbrev NotLoop : Verdict → Type 0
NotLoop v = (answered v).number ≡ 8 → ⊥

test_not : (b : Bool) (v : Verdict) (name : Name) (place : ℕ) → NotLoop v → (number_of name ≡ 8 → ⊥) → NotLoop (cond b v (refuse name place))
test_not true v name place h n = h
test_not false v name place h n = n

-- nor is it with its column
located_not : (l : List ℕ) (field : ℕ) (v : Verdict) → NotLoop v → NotLoop (located l field v)
unfolding located
located_not l field (Ok tt) h = h
located_not l field (Err r) h = h

line_not : (place : ℕ) (s : Seen) (l : List ℕ) → NotLoop (judge_line place s l)
unfolding judge_line in_order
line_not place s l =
    let t : Tests = line_tests s l in
    located_not l (line_field s l) (in_order t Count place)
    (test_not t.framed _ Frame place
    (test_not t.checked _ Check place
    (test_not t.kind _ Kind place
    (test_not t.room _ TooMany place
    (test_not t.field _ Field place
    (test_not t.last pass Count place (λ e. omega (arith, e)) (λ e. omega (arith, e)))
    (λ e. omega (arith, e)))
    (λ e. omega (arith, e)))
    (λ e. omega (arith, e)))
    (λ e. omega (arith, e)))
    (λ e. omega (arith, e)))

-- what goes on, or its refusal, as a verdict
abbrev verdict_in : Going Progress → Verdict
verdict_in (goes s) = pass
verdict_in (refused r) = Err r

by_verdict_lem : (v : Verdict) (made : Progress) → NotLoop v → NotLoop (verdict_in (by_verdict v made))
unfolding by_verdict
by_verdict_lem (Ok tt) made h = h
by_verdict_lem (Err r) made h = h

end_not : (g : Stage) (s : Progress) → NotLoop (verdict_in (at_end g s))
unfolding at_end
end_not Start s e = omega (arith, e)
end_not Rows s e = omega (arith, e)
end_not Ended s e = omega (arith, e)

reads_not : (x : Going Progress) (ls : Lines) → NotLoop (verdict_in x) → NotLoop (verdict_in (reads x ls))
unfolding walks line_step
reads_not (refused r) none h = h
reads_not (refused r) (endless l) h = h
reads_not (refused r) (line l ls) h = h
reads_not (goes s) none h = end_not s.seen.stage s
reads_not (goes s) (endless l) h = λ e. omega (arith, e)
reads_not (goes s) (line l ls) h = reads_not (line_step s l) ls (by_verdict_lem (judge_line (s.seen.line + 1) s.seen l) (after s (bytes_of l)) (line_not (s.seen.line + 1) s.seen l))

-- ---- a sheet reads in good order, or is refused for something else

-- the reader's answer in document 01's numbers
abbrev answer_in : ReadOutcome → Answer
answer_in o = answered (verdict_of o.answer)

-- what passed every line is in good order
pub reader_order : (sheet p t : List ℕ) (s : Progress) → ReadsInOrder sheet p t s → GoodOrder (sheet_read s)
reader_order sheet p t s o = (read_so_far s start (lines sheet) start_so_far o.to_its_end).1

module _ (sheet p t : List ℕ) where
  -- after the last line LOOP alone is tested
  after_order : (s : Progress) → ReadsInOrder sheet p t s → reading sheet p t ≡ after_lines s p t
  unfolding reading by_lines
  after_order s o = rw (o.lengths, o.to_its_end) refl

  by_reads : sheet_lengths_fit (length sheet) (length p) (length t) ≡ true → (x : Going Progress) → reads (goes start) (lines sheet) ≡ x → NotLoop (verdict_in x)
      → ((s : Progress) × ReadsInOrder sheet p t s) ⊎ ((r : Refusal) × (reading sheet p t ≡ read_outcome (Err r) p t) × NotLoop (Err r))
  unfolding reading by_lines
  by_reads l (goes s) e h = inl (s, record { lengths = l; to_its_end = e })
  by_reads l (refused r) e h = inr (r, rw (l, e) refl, h)

  order_cases : ((s : Progress) × ReadsInOrder sheet p t s) ⊎ ((r : Refusal) × (reading sheet p t ≡ read_outcome (Err r) p t) × NotLoop (Err r))
  unfolding reading
  order_cases =
      ⊎_elim
      (λ (l : sheet_lengths_fit (length sheet) (length p) (length t) ≡ true).
      by_reads l (reads (goes start) (lines sheet)) refl (reads_not (goes start) (lines sheet) (λ e. omega (arith, e))))
      (λ (l : sheet_lengths_fit (length sheet) (length p) (length t) ≡ false). inr (refusal Length 0, rw l refl, λ e. omega (arith, e)))
      (test (sheet_lengths_fit (length sheet) (length p) (length t)))

  -- ---- and then it has a loop at a place, or none

  -- the refusal with LOOP
  abbrev loop_at : ℕ → Result Counts Refusal
  loop_at k = Err (refusal Loop k)

  module _ (s : Progress) (o : ReadsInOrder sheet p t s) where
    pub refuses_loop : (k : ℕ) → LoopAt (sheet_read s) k → reading sheet p t ≡ read_outcome (loop_at k) p t
    unfolding out_by_loop
    refuses_loop k l =
        ⊎_elim
        (λ (x : (loop_place (sheet_read s) ≡ PAIRS) × NoLoop (sheet_read s)). absurd (loop_not (sheet_read s) k l x.1))
        (λ (y : (loop_place (sheet_read s) < PAIRS) × LoopAt (sheet_read s) (loop_place (sheet_read s))).
        let e : loop_place (sheet_read s) ≡ k = loop_one (sheet_read s) (loop_place (sheet_read s)) k y.1 l in
        after_order s o ∙ rw (lt-ltb (loop_place (sheet_read s)) PAIRS y.0) (ap (λ (x : ℕ). read_outcome (loop_at x) p t) e))
        (loop_or (sheet_read s) (good_heads (sheet_read s) (reader_order sheet p t s o)))

    pub accepts_none : NoLoop (sheet_read s) → reading sheet p t ≡ read_outcome (Ok s.seen.counts) s.tables.periodics s.tables.triggers
    unfolding out_by_loop
    accepts_none nl =
        ⊎_elim
        (λ (x : (loop_place (sheet_read s) ≡ PAIRS) × NoLoop (sheet_read s)). after_order s o ∙ rw (le-ltb (loop_place (sheet_read s)) PAIRS (omega (arith, x.0))) refl)
        (λ (y : (loop_place (sheet_read s) < PAIRS) × LoopAt (sheet_read s) (loop_place (sheet_read s))). absurd (loop_not (sheet_read s) _ y.1 nl))
        (loop_or (sheet_read s) (good_heads (sheet_read s) (reader_order sheet p t s o)))

    loop_or_none : ((k : ℕ) × LoopAt (sheet_read s) k) ⊎ NoLoop (sheet_read s)
    loop_or_none =
        ⊎_elim
        (λ (x : (loop_place (sheet_read s) ≡ PAIRS) × NoLoop (sheet_read s)). inr x.1)
        (λ (y : (loop_place (sheet_read s) < PAIRS) × LoopAt (sheet_read s) (loop_place (sheet_read s))). inl (loop_place (sheet_read s), y.1))
        (loop_or (sheet_read s) (good_heads (sheet_read s) (reader_order sheet p t s o)))

  -- THE THEOREM: number 8 at k exactly where the sheet reads in good order and has its loop at k
  pub reader_loops : (k : ℕ) → (answer_in (reading sheet p t) ≡ record { number = 8; place = k; column = 0 }) ↔ ((s : Progress) × ReadsInOrder sheet p t s × LoopAt (sheet_read s) k)
  reader_loops k = (
    (λ h.
        ⊎_elim
        (λ (x : (s : Progress) × ReadsInOrder sheet p t s).
        ⊎_elim
        (λ (l : (j : ℕ) × LoopAt (sheet_read x.0) j).
        let j : l.0 ≡ k = ap (λ (a : Answer). a.place) (sym (ap answer_in (refuses_loop x.0 x.1 l.0 l.1)) ∙ h) in
        (x.0, x.1, subst (LoopAt (sheet_read x.0)) j l.1))
        (λ (n : NoLoop (sheet_read x.0)).
        let e : 0 ≡ 8 = ap (λ (a : Answer). a.number) (sym (ap answer_in (accepts_none x.0 x.1 n)) ∙ h) in
        absurd (omega arith))
        (loop_or_none x.0 x.1))
        (λ (y : (r : Refusal) × (reading sheet p t ≡ read_outcome (Err r) p t) × NotLoop (Err r)). absurd (y.2 (ap (λ (a : Answer). a.number) (sym (ap answer_in y.1) ∙ h))))
        order_cases),
    (λ x. ap answer_in (refuses_loop x.0 x.1 k x.2)),
  )

  -- and number 0, place 0, exactly where it reads in good order and has none
  pub reader_accepts : (answer_in (reading sheet p t) ≡ record { number = 0; place = 0; column = 0 }) ↔ ((s : Progress) × ReadsInOrder sheet p t s × NoLoop (sheet_read s))
  reader_accepts = (
    (λ h.
        ⊎_elim
        (λ (x : (s : Progress) × ReadsInOrder sheet p t s).
        ⊎_elim
        (λ (l : (j : ℕ) × LoopAt (sheet_read x.0) j). not_ok (refusal Loop l.0) (sym (ap answer_in (refuses_loop x.0 x.1 l.0 l.1)) ∙ h))
        (λ (n : NoLoop (sheet_read x.0)). (x.0, x.1, n))
        (loop_or_none x.0 x.1))
        (λ (y : (r : Refusal) × (reading sheet p t ≡ read_outcome (Err r) p t) × NotLoop (Err r)). not_ok y.0 (sym (ap answer_in y.1) ∙ h))
        order_cases),
    (λ x. ap answer_in (accepts_none x.0 x.1 x.2)),
  )

  -- a refusal leaves both tables as they came
  pub reader_keeps : (r : Refusal) → (reading sheet p t).answer ≡ Err r → reading sheet p t ≡ read_outcome (Err r) p t
  reader_keeps r h =
      let kept : (x : Result Counts Refusal) → reading sheet p t ≡ read_outcome x p t → reading sheet p t ≡ read_outcome (Err r) p t
      = λ x e. e ∙ ap (λ (a : Result Counts Refusal). read_outcome a p t) (sym (ap (λ (o : ReadOutcome). o.answer) e) ∙ h) in
      ⊎_elim
      (λ (x : (s : Progress) × ReadsInOrder sheet p t s).
      ⊎_elim
      (λ (l : (j : ℕ) × LoopAt (sheet_read x.0) j). kept (loop_at l.0) (refuses_loop x.0 x.1 l.0 l.1))
      (λ (n : NoLoop (sheet_read x.0)).
      let e : Ok x.0.seen.counts ≡ Err r = sym (ap (λ (o : ReadOutcome). o.answer) (accepts_none x.0 x.1 n)) ∙ h in
      not_ok r (sym (ap (λ (a : Result Counts Refusal). answered (verdict_of a)) e)))
      (loop_or_none x.0 x.1))
      (λ (y : (r : Refusal) × (reading sheet p t ≡ read_outcome (Err r) p t) × NotLoop (Err r)). kept (Err y.0) y.1)
      order_cases
