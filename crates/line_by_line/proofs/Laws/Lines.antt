-- Line by line: the reader stops at the line where the words say that it is refused, with that name, or it reads whole and has what the frames say. By the lines that are left, where those
-- before them passed.
-- Assumes nothing.
use Rattle.std.specs.Prelude.{◌≡◌, Bool, true, false, cond, take}
use Rattle.std.proofs.Math.Path.{refl, sym, ap, subst}
use Rattle.std.proofs.Common.{◌∙◌, length-drop, take_all, take-suc, length-take-le}
use Rattle.std.proofs.Math.Logic.{⊎_elim, by_cases}
use mathlib.Core.List.{List, [], ◌∷◌, ◌++◌}
use Prim.Native.Nat.{ℕ, suc, ◌+◌, ◌-◌, ◌≤◌, ◌<◌}
use Rattle.std.proofs.Math.Decide.{dec_le}
use native.Mathlib.Omega.{arith}
use Rattle.std.proofs.Math.Dec.{eqb}
use Rattle.std.proofs.Math.ListN.{length, get_or, drop, get_or-append}
use Rattle.std.proofs.lemmas.List.{length-map}
use Rattle.std.proofs.Math.Seq.{drop-cons, get_or-append_seam}
use borrow.Author.Tests.{eqb-true, eqb-false}
use Rattle.theory.proofs.Laws.Tests.{test}
use Rattle.answers.specs.declared.Name.{Name}
use Rattle.answers.specs.declared.Name.TheVariants.{Frame, Kind}
use Rattle.answers.specs.Answers.{refusal, in_column, Verdict}
use Rattle.text.specs.Lines.{Lines, none, endless, line, lines}
use Rattle.text.specs.Framed.{frame_column}
use Rattle.frames.specs.Frame.{bytes_of}
use Rattle.kinds.specs.declared.Stage.TheVariants.{Rows, Ended}
use Rattle.kinds.specs.Kinds.{END}
use Rattle.line_readers.specs.Column.{column_of, in_line, located}
use Rattle.line_readers.specs.Walks.{Going, goes, refused, by_verdict, walks}
use Rattle.line_readers.specs.Laws.Walks.{walks_refused}
use Rattle.sheet_acts.specs.Acts.{Progress, after}
use Rattle.reader.specs.Line.{line_step}
use Rattle.reader.specs.Lines.{at_end, sheet_reader, reads}
use Rattle.reader.specs.Reading.{start}
use Rattle.line_by_line.specs.Lines.{ended_lines, lines_in, rest_in}
use Rattle.line_by_line.specs.Tests.{how_many, order, all_pass, FirstFails, bad_field}
use Rattle.line_by_line.specs.ComesBack.{frames_of, Passes, Fails, Fault, fails, no_final, no_end, RefusedAt, faulty_line, refusal_at, ReadsWhole}
use Rattle.line_by_line.proofs.Laws.Cut.{Left, left_so}
use Rattle.line_by_line.proofs.Laws.Order.{judged_pass, judged_fail, first}
use Rattle.line_by_line.proofs.Laws.Said.{stage_after, said}
use Rattle.line_by_line.proofs.Laws.Tests.{judge_same}
use Rattle.line_by_line.proofs.Laws.Taken.{taken}

-- what comes of the lines, by the words: a refusal at its line, or what the frames say
pub data Way (all : List (List ℕ)) (rest : List ℕ) (x : Going Progress) : Type 0 where
  stops : (name : Name) (k : ℕ) → RefusedAt all rest name k → x ≡ refused (refusal_at all rest name k) → Way all rest x
  goes_on : ReadsWhole all rest → x ≡ goes (said (frames_of all)) → Way all rest x

-- one line: it goes on with one frame more, or is refused at its number
module _ (fs : List (List ℕ)) (l : List ℕ) where
  line_passes : all_pass order fs l ≡ true → line_step (said fs) l ≡ goes (said (fs ++ bytes_of l ∷ []))
  unfolding line_step by_verdict located
  line_passes h =
      ap (λ (v : Verdict). by_verdict v (after (said fs) (bytes_of l)))
      (judge_same fs l (length fs + 1) ∙ ap (located l (bad_field fs l)) (judged_pass fs l order (length fs + 1) h))
      ∙ ap goes (taken fs l h)

  line_fails : (name : Name) → FirstFails order name fs l → line_step (said fs) l ≡ refused (in_line l (bad_field fs l) (refusal name (length fs + 1)))
  unfolding line_step by_verdict located
  line_fails name x =
      ap (λ (v : Verdict). by_verdict v (after (said fs) (bytes_of l)))
      (judge_same fs l (length fs + 1) ∙ ap (located l (bad_field fs l)) (judged_fail fs l order name (length fs + 1) x))

-- line n + 1 is that after n lines
module _ (all : List (List ℕ)) (n : ℕ) where
  abbrev here : suc n - 1 ≡ n
  here = omega arith

  passes_here : all_pass order (frames_of (take n all)) (get_or all n []) ≡ true → Passes all (suc n)
  passes_here = subst (λ (m : ℕ). all_pass order (frames_of (take m all)) (get_or all m []) ≡ true) (sym here)

  fails_here : (name : Name) → FirstFails order name (frames_of (take n all)) (get_or all n []) → Fails name all (suc n)
  fails_here name = subst (λ (m : ℕ). FirstFails order name (frames_of (take m all)) (get_or all m [])) (sym here)

-- the frames of lines one after the other
frames_append : (ls ms : List (List ℕ)) → frames_of (ls ++ ms) ≡ frames_of ls ++ frames_of ms
frames_append [] ms = refl
frames_append (l ∷ ls) ms = ap (λ (r : List (List ℕ)). bytes_of l ∷ r) (frames_append ls ms)

module _ (all : List (List ℕ)) (rest : List ℕ) where
  -- the faulty line m, where n lines stand before it: the next of them, or the rest
  faulty_line_lem : (n m : ℕ) → m - 1 ≡ n → n < length all → faulty_line all rest m ≡ get_or all n []
  faulty_line_lem n m e h = ap (λ (j : ℕ). get_or (all ++ rest ∷ []) j []) e ∙ get_or-append all (rest ∷ []) [] n h

  faulty_rest : (m : ℕ) → m - 1 ≡ length all → faulty_line all rest m ≡ rest
  faulty_rest m e = ap (λ (j : ℕ). get_or (all ++ rest ∷ []) j []) e ∙ get_or-append_seam all rest [] []

  -- the refusal of either, with its column
  line_refused : (name : Name) (n m : ℕ) (x : List ℕ) → m - 1 ≡ n → n < length all → x ≡ get_or all n [] → in_line x (bad_field (frames_of (take n all)) x) (refusal name m) ≡ refusal_at all rest name m
  line_refused name n m x e h q =
      let y : x ≡ faulty_line all rest m = q ∙ sym (faulty_line_lem n m e h) in
      λ i. in_column (column_of name (y i) (bad_field (frames_of (take (sym e i) all)) (y i))) (refusal name m)

  rest_refused : (m : ℕ) (x : List ℕ) → m - 1 ≡ length all → x ≡ rest → in_line x 0 (refusal Frame m) ≡ refusal_at all rest Frame m
  rest_refused m x e q = ap (λ (y : List ℕ). in_column (frame_column y) (refusal Frame m)) (q ∙ sym (faulty_rest m e))

  -- the first n lines pass
  abbrev PassTo : ℕ → Type 0
  PassTo n = (j : ℕ) → 1 ≤ j → j ≤ n → Passes all j

  -- and so do n + 1, where the next one passes
  pass_more : (n : ℕ) → PassTo n → Passes all (suc n) → PassTo (suc n)
  pass_more n p h j a b = by_cases (dec_le j n) (λ (c : j ≤ n). p j a c) (λ (c : ¬ (j ≤ n)). let e : suc n ≡ j = omega arith in subst (Passes all) e h)

  -- n lines have n frames, and one line more has one more
  length_before : (n : ℕ) → n ≤ length all → length (frames_of (take n all)) ≡ n
  length_before n h = length-map (take n all) bytes_of ∙ length-take-le n all h

  frames_more : (n : ℕ) → n < length all → frames_of (take (suc n) all) ≡ frames_of (take n all) ++ bytes_of (get_or all n []) ∷ []
  frames_more n h = ap frames_of (take-suc all n [] h) ∙ frames_append (take n all) (get_or all n [] ∷ [])

  -- after the last line, where no frame is the end
  none_is_end : (fs : List (List ℕ)) → fs ≡ frames_of all → rest ≡ [] → PassTo (length all) → how_many END fs ≡ 0 → RefusedAt all rest Kind (length fs + 1)
  none_is_end fs e c p z =
      let w : length fs ≡ length all = ap length e ∙ length-map all bytes_of in
      record { from_1 = omega arith; before = λ j a b. p j a (omega arith); fault = no_end (omega arith) c (ap (how_many END) (sym e) ∙ z) refl }

  -- after the last line: the end frame is there, or not
  at_end_lem : (fs : List (List ℕ)) → fs ≡ frames_of all → rest ≡ [] → PassTo (length all) → Way all rest (at_end (stage_after fs) (said fs))
  unfolding at_end
  at_end_lem [] e c p = stops Kind 1 (none_is_end [] e c p refl) refl
  at_end_lem (f ∷ fs) e c p =
      let n : ℕ = how_many END (f ∷ fs) in
      ⊎_elim
      (λ (z : eqb n 0 ≡ true). stands z (stops Kind (length (f ∷ fs) + 1) (none_is_end (f ∷ fs) e c p (eqb-true n 0 z)) refl))
      (λ (z : eqb n 0 ≡ false).
      let some : 1 ≤ n = omega (arith, eqb-false n 0 z) in
      stands z
      (goes_on
      (record { each = p; no_rest = c; end_there = subst (λ (x : List (List ℕ)). 1 ≤ how_many END x) e some })
      (ap (λ (x : List (List ℕ)). goes (said x)) e)))
      (test (eqb n 0))
    where
      -- where the reader stands, by that test
      stands : {b : Bool} → eqb (how_many END (f ∷ fs)) 0 ≡ b → Way all rest (at_end (cond b Rows Ended) (said (f ∷ fs))) → Way all rest (at_end (stage_after (f ∷ fs)) (said (f ∷ fs)))
      stands z = subst (λ (b : Bool). Way all rest (at_end (cond b Rows Ended) (said (f ∷ fs)))) (sym z)

  -- THE LAW: from line n + 1 on
  from_line : (n : ℕ) (ls : Lines) → ended_lines ls ≡ drop n all → Left rest ls → n ≤ length all → PassTo n → Way all rest (reads (goes (said (frames_of (take n all)))) ls)
  unfolding walks
  from_line n none e c l p =
      let w : length all - n ≡ 0 = sym (length-drop n all) ∙ ap length (sym e) in
      let q : n ≡ length all = omega arith in
      at_end_lem (frames_of (take n all)) (ap frames_of (take_all n all (omega arith))) c (subst PassTo q p)
  from_line n (endless x) e c l p =
      let w : length all - n ≡ 0 = sym (length-drop n all) ∙ ap length (sym e) in
      let k : length (frames_of (take n all)) ≡ n = length_before n l in
      stops Frame (length (frames_of (take n all)) + 1)
      (record { from_1 = omega arith; before = λ j a b. p j a (omega arith); fault = no_final (omega arith) c.1 refl })
      (ap refused (rest_refused (length (frames_of (take n all)) + 1) x (omega arith) (sym c.0)))
  from_line n (line x ls) e c l p =
      let fs : List (List ℕ) = frames_of (take n all) in
      let w : length all - n ≡ suc (length (ended_lines ls)) = sym (length-drop n all) ∙ ap length (sym e) in
      let k : length fs ≡ n = length_before n l in
      let inside : n < length all = omega arith in
      let q : x ∷ ended_lines ls ≡ get_or all n [] ∷ drop (suc n) all = e ∙ drop-cons all n [] inside in
      let this : x ≡ get_or all n [] = cc in
      let others : ended_lines ls ≡ drop (suc n) all = cc in
      ⊎_elim
      (λ (h : all_pass order fs x ≡ true).
      let s : line_step (said fs) x ≡ goes (said (frames_of (take (suc n) all))) =
      line_passes fs x h ∙ ap (λ (y : List (List ℕ)). goes (said y)) (ap (λ (y : List ℕ). fs ++ bytes_of y ∷ []) this ∙ sym (frames_more n inside)) in
      subst (λ (g : Going Progress). Way all rest (reads g ls)) (sym s)
      (from_line (suc n) ls others c inside (pass_more n p (passes_here all n (subst (λ (y : List ℕ). all_pass order fs y ≡ true) this h)))))
      (λ (h : (name : Name) × FirstFails order name fs x).
      let name : Name = h.0 in
      let f : Fails name all (suc n) = fails_here all n name (subst (λ (y : List ℕ). FirstFails order name fs y) this h.1) in
      let m : suc n ≡ length fs + 1 = omega arith in
      stops name (length fs + 1)
      (record { from_1 = omega arith; before = λ j a b. p j a (omega arith); fault = subst (Fault all rest name) m (fails inside f) })
      (ap (λ (g : Going Progress). reads g ls) (line_fails fs x name h.1)
      ∙ walks_refused sheet_reader _ ls
      ∙ ap refused (line_refused name n (length fs + 1) x (omega arith) inside this)))
      (first fs x order)

-- from line 1 on
pub from_first : (sheet : List ℕ) → Way (lines_in sheet) (rest_in sheet) (reads (goes start) (lines sheet))
from_first sheet = from_line (lines_in sheet) (rest_in sheet) 0 (lines sheet) refl (left_so sheet) (omega arith) (λ j a b. absurd (omega arith))
