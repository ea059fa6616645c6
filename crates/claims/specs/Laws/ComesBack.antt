-- What the reader gives is what document 01 says comes back: LENGTH, a refusal at its line, LOOP, or the rows of a sheet that reads whole. Line by line it goes as the words say
-- (`from_first`), and they leave no choice (`refused_one`, `whole_not`); after the last line LOOP is as in `Laws.Reader`.
-- Assumes nothing.
use Rattle.std.specs.Prelude.{◌≡◌, ◌↔◌, true, false, List, ℕ, ◌<◌, length, Err, Ok}
use Rattle.std.proofs.Math.Path.{refl}
use Rattle.std.proofs.Common.{sym, ap, ◌∙◌, subst, ⊎_elim, arith}
use Rattle.tables.specs.declared.Counts.{Counts}
use Rattle.theory.specs.Graph.{NoLoop, LoopAt}
use Rattle.theory.specs.LoopTest.{PAIRS, loop_place}
use borrow.Author.Tests.{le-leb, eq-eqb}
use Rattle.theory.proofs.Laws.Tests.{test, not_both, is_false}
use Rattle.theory.proofs.Laws.Loop.{loop_or}
use Rattle.theory.proofs.Laws.OneSolution.{good_heads}
use Rattle.answers.specs.declared.Name.{Name}
use Rattle.answers.specs.declared.Name.TheVariants.{Length, Loop}
use Rattle.answers.specs.Answers.{answered}
use Rattle.text.specs.Lines.{lines}
use Rattle.line_readers.specs.Walks.{goes, refused}
use Rattle.line_readers.specs.Laws.Walks.{no_goes}
use Rattle.sheet_acts.specs.Acts.{Progress}
use Rattle.reader.specs.Lines.{reads}
use Rattle.reader.specs.Answer.{verdict_of}
use Rattle.reader.specs.Out.{ReadOutcome, read_outcome}
use Rattle.reader.proofs.Laws.Exact.{outcome_one}
use Rattle.reader.specs.Reading.{start, by_lines, sheet_lengths_fit, reading}
use Rattle.reader.proofs.Laws.Lengths.{lengths_say}
use Rattle.line_by_line.specs.Lines.{lines_in, rest_in}
use Rattle.line_by_line.specs.ComesBack.{RefusedAt, refusal_at, ReadsWhole, periodic_table, trigger_table, counts_of, sheet_said, LengthsFit, frames_in, ComesBack, by_length, at_line, by_loop, accepted}
use Rattle.line_by_line.proofs.Laws.Said.{said}
use Rattle.line_by_line.proofs.Laws.Lines.{Way, stops, goes_on, from_first}
use Rattle.line_by_line.proofs.Laws.One.{refused_one, whole_not}
use Rattle.claims.specs.Words.{ReadsInOrder}
use Rattle.claims.specs.Laws.Numbers.{no_other, number_once}
use Rattle.claims.specs.Laws.Reader.{reader_order, refuses_loop, accepts_none}

module _ (sheet p t : List ℕ) where
  -- the lines of the sheet, what stands after them, and the frames
  abbrev ls : List (List ℕ)
  ls = lines_in sheet

  abbrev rest : List ℕ
  rest = rest_in sheet

  abbrev fs : List (List ℕ)
  fs = frames_in sheet

  -- passes LENGTH, in words and as the reader tests it
  abbrev Fit : Type 0
  Fit = LengthsFit sheet p t

  fits : sheet_lengths_fit (length sheet) (length p) (length t) ≡ true → Fit
  fits h = let x = lengths_say (length sheet) (length p) (length t) h in record { of_sheet = x.0; of_periodics = x.1.0; of_triggers = x.1.1 }

  so_fits : Fit → sheet_lengths_fit (length sheet) (length p) (length t) ≡ true
  unfolding sheet_lengths_fit
  so_fits x = rw (le-leb _ _ x.of_sheet, eq-eqb _ _ x.of_periodics, eq-eqb _ _ x.of_triggers) refl

  -- a refusal, with the tables as they came
  abbrev bad : Name → ℕ → ReadOutcome
  bad name k = read_outcome (Err (refusal_at ls rest name k)) p t

  -- ---- each answer, from what the words say

  -- LENGTH
  length_back : ¬ Fit → reading sheet p t ≡ bad Length 0
  unfolding reading
  length_back n = rw (is_false (sheet_lengths_fit (length sheet) (length p) (length t)) (λ h. n (fits h))) refl

  -- a line that the reader refuses, and one that is refused by the words
  refused_back : Fit → (name : Name) (k : ℕ) → reads (goes start) (lines sheet) ≡ refused (refusal_at ls rest name k) → reading sheet p t ≡ bad name k
  unfolding reading by_lines
  refused_back l name k e = rw (so_fits l, e) refl

  line_back : Fit → (name : Name) (k : ℕ) → RefusedAt ls rest name k → reading sheet p t ≡ bad name k
  line_back l name k x = by_way (from_first sheet)
    where
      by_way : Way ls rest (reads (goes start) (lines sheet)) → reading sheet p t ≡ bad name k
      by_way (stops a m y e) =
          let one = refused_one ls rest a name m k y x in
          refused_back l a m e ∙ (λ i. bad (one.0 i) (one.1 i))
      by_way (goes_on w e) = absurd (whole_not ls rest name k w x)

  -- a sheet that reads whole is read to its end
  whole_back : Fit → ReadsWhole ls rest → ReadsInOrder sheet p t (said fs)
  whole_back l w = by_way (from_first sheet)
    where
      by_way : Way ls rest (reads (goes start) (lines sheet)) → ReadsInOrder sheet p t (said fs)
      by_way (stops a m y e) = absurd (whole_not ls rest a m w y)
      by_way (goes_on v e) = record { lengths = so_fits l; to_its_end = e }

  -- then LOOP, or what is handed out
  loop_back : Fit → ReadsWhole ls rest → (k : ℕ) → LoopAt (sheet_said fs) k → reading sheet p t ≡ bad Loop k
  loop_back l w k x = refuses_loop sheet p t (said fs) (whole_back l w) k x

  good_back : Fit → ReadsWhole ls rest → NoLoop (sheet_said fs) → reading sheet p t ≡ read_outcome (Ok (counts_of fs)) (periodic_table fs) (trigger_table fs)
  good_back l w x = accepts_none sheet p t (said fs) (whole_back l w) x

  -- ---- one of them is given

  -- after the last line
  after_last : Fit → ReadsWhole ls rest → ComesBack sheet p t (reading sheet p t)
  after_last l w =
      ⊎_elim
      (λ (x : (loop_place (sheet_said fs) ≡ PAIRS) × NoLoop (sheet_said fs)). accepted l w x.1 (good_back l w x.1))
      (λ (x : (loop_place (sheet_said fs) < PAIRS) × LoopAt (sheet_said fs) (loop_place (sheet_said fs))). by_loop _ l w x.1 (loop_back l w _ x.1))
      (loop_or (sheet_said fs) (good_heads (sheet_said fs) (reader_order sheet p t (said fs) (whole_back l w))))

  -- of any bytes
  some_back : ComesBack sheet p t (reading sheet p t)
  some_back =
      ⊎_elim
      (λ (h : sheet_lengths_fit (length sheet) (length p) (length t) ≡ true). by_way (fits h) (from_first sheet))
      (λ (h : sheet_lengths_fit (length sheet) (length p) (length t) ≡ false). let n : ¬ Fit = λ x. not_both (so_fits x) h in by_length n (length_back n))
      (test (sheet_lengths_fit (length sheet) (length p) (length t)))
    where
      by_way : Fit → Way ls rest (reads (goes start) (lines sheet)) → ComesBack sheet p t (reading sheet p t)
      by_way l (stops name k x e) = at_line name k l x (refused_back l name k e)
      by_way l (goes_on w e) = after_last l w

  -- THE THEOREM: the reader's outcome is o exactly where o comes back
  pub reader_says : (o : ReadOutcome) → (reading sheet p t ≡ o) ↔ ComesBack sheet p t o
  reader_says o = ((λ h. subst (ComesBack sheet p t) h some_back), from)
    where
      from : ComesBack sheet p t o → reading sheet p t ≡ o
      from (by_length f e) = length_back f ∙ sym e
      from (at_line name k l x e) = line_back l name k x ∙ sym e
      from (by_loop k l w x e) = loop_back l w k x ∙ sym e
      from (accepted l w x e) = good_back l w x ∙ sym e

  -- ---- what it says of a refusal, of reading to the end, and of what is handed out

  -- the number and the place of an answer
  abbrev number_in : ReadOutcome → ℕ
  number_in o = (answered (verdict_of o.answer)).number

  abbrev place_in : ReadOutcome → ℕ
  place_in o = (answered (verdict_of o.answer)).place

  -- with any name but LENGTH and LOOP, exactly where it is refused at that line
  pub reader_refuses : (name : Name) (k : ℕ) → ¬ (name ≡ Length) → ¬ (name ≡ Loop) → (reading sheet p t ≡ bad name k) ↔ (Fit × RefusedAt ls rest name k)
  reader_refuses name k n m = ((λ h. to ((reader_says (bad name k)).0 h)), (λ x. line_back x.0 name k x.1))
    where
      to : ComesBack sheet p t (bad name k) → Fit × RefusedAt ls rest name k
      to (by_length f e) = absurd (n (number_once name Length (ap number_in e)))
      to (at_line a j l x e) =
          let q : a ≡ name = sym (number_once name a (ap number_in e)) in
          let r : j ≡ k = sym (ap place_in e) in
          (l, subst (λ (b : Name). RefusedAt ls rest b k) q (subst (RefusedAt ls rest a) r x))
      to (by_loop j l w x e) = absurd (m (number_once name Loop (ap number_in e)))
      to (accepted l w x e) = absurd (omega (arith, (no_other name).0, ap number_in e))

  -- reading goes on to its end exactly where the sheet reads whole
  pub reader_whole : ((s : Progress) × ReadsInOrder sheet p t s) ↔ (Fit × ReadsWhole ls rest)
  reader_whole = ((λ x. to x.0 x.1 (from_first sheet)), (λ x. (said fs, whole_back x.0 x.1)))
    where
      to : (s : Progress) → ReadsInOrder sheet p t s → Way ls rest (reads (goes start) (lines sheet)) → Fit × ReadsWhole ls rest
      to s o (stops a m y e) = no_goes (refusal_at ls rest a m) s (sym e ∙ o.to_its_end)
      to s o (goes_on w e) = (fits o.lengths, w)

  -- what is handed out is what the frames say
  pub reader_tables : (r : Counts) (p' t' : List ℕ) → reading sheet p t ≡ read_outcome (Ok r) p' t' → (r ≡ counts_of fs) × (p' ≡ periodic_table fs) × (t' ≡ trigger_table fs)
  reader_tables r p' t' h = to ((reader_says (read_outcome (Ok r) p' t')).0 h)
    where
      not_bad : {C : Type 0} (name : Name) (k : ℕ) → read_outcome (Ok r) p' t' ≡ bad name k → C
      not_bad name k e = absurd (omega (arith, (no_other name).0, ap number_in e))

      to : ComesBack sheet p t (read_outcome (Ok r) p' t') → (r ≡ counts_of fs) × (p' ≡ periodic_table fs) × (t' ≡ trigger_table fs)
      to (by_length f e) = not_bad Length 0 e
      to (at_line a j l x e) = not_bad a j e
      to (by_loop j l w x e) = not_bad Loop j e
      to (accepted l w x e) =
          let q = outcome_one (Ok r) (Ok (counts_of fs)) p' (periodic_table fs) t' (trigger_table fs) e in
          let g : Ok r ≡ Ok (counts_of fs) = q.0 in
          (cc, q.1, q.2)
