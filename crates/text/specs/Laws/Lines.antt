-- Laws of lines: a cursor at the start of a line, and where the line ends. What is left of the text from the cursor on is `drop at text`.
-- Assumes nothing.
use Rattle.std.specs.Prelude.{◌≡◌, refl, Bool, true, false, not, ◌&&◌, List, [], ◌∷◌, ◌++◌, ℕ, suc, ◌+◌, ◌-◌, ◌≤◌, ◌<◌, None, Some, eqb, length, get_or, take, drop}
use Rattle.std.proofs.Common.{sym, ap, ◌∙◌, ⊎_elim, add-one, arith, length-drop, length-take-le, drop_of_length-le, drop-drop, drop-cons, eqb-true, eq-eqb, ne_eqb}
use Rattle.std.proofs.lemmas.Bool.{eqb-false, not-true, cases_lt}
use Rattle.theory.proofs.Laws.Tests.{and_left, and_right, test}
use Rattle.text.specs.Lines.{LINE_END, Lines, none, endless, line, onto, lines, first_ended, span}

span_le : (l : List ℕ) → span l ≤ length l
span_le [] = omega arith
span_le (b ∷ text) =
    ⊎_elim
    (λ (t : eqb b LINE_END ≡ true). rw t (omega arith))
    (λ (t : eqb b LINE_END ≡ false). rw t (omega (arith, span_le text)))
    (test (eqb b LINE_END))

-- ---- the first line of a text

lines_ended : (l : List ℕ) → span l < length l → lines l ≡ line (take (span l) l) (lines (drop (suc (span l)) l))
lines_ended [] h = absurd (omega arith)
lines_ended (b ∷ text) h =
    ⊎_elim
    (λ (t : eqb b LINE_END ≡ true). rw t)
    (λ (t : eqb b LINE_END ≡ false).
    let k : span text < length text = let g : suc (span text) < suc (length text) = rw t at h in omega arith in
    rw (t, lines_ended text k))
    (test (eqb b LINE_END))

lines_endless : (l : List ℕ) → 0 < length l → length l ≤ span l → lines l ≡ endless l
lines_endless [] h k = absurd (omega arith)
lines_endless (b ∷ []) h k =
    ⊎_elim
    (λ (t : eqb b LINE_END ≡ true). let g : 1 ≤ 0 = rw t at k in absurd (omega arith))
    (λ (t : eqb b LINE_END ≡ false). rw t)
    (test (eqb b LINE_END))
lines_endless (b ∷ d ∷ text) h k =
    ⊎_elim
    (λ (t : eqb b LINE_END ≡ true). let g : suc (suc (length text)) ≤ 0 = rw t at k in absurd (omega arith))
    (λ (t : eqb b LINE_END ≡ false).
    let g : suc (length (d ∷ text)) ≤ suc (span (d ∷ text)) = rw t at k in
    rw (t, lines_endless (d ∷ text) (omega arith) (omega arith)))
    (test (eqb b LINE_END))

-- the same by the first line alone, where it has its 0A
pub first_here : (l : List ℕ) → span l < length l → first_ended (lines l) ≡ Some (take (span l) l)
first_here l h = ap first_ended (lines_ended l h)

pub first_none : (l : List ℕ) → length l ≤ span l → first_ended (lines l) ≡ None
first_none [] h = refl
first_none (b ∷ l) h = ap first_ended (lines_endless (b ∷ l) (omega arith) h)

-- ---- the line from a cursor on, which ends at e

module _ (text : List ℕ) (at e : ℕ) (ends : e ≡ at + span (drop at text)) where
  pub line_here : e < length text → lines (drop at text) ≡ line (take (e - at) (drop at text)) (lines (drop (e + 1) text))
  line_here h =
      let a : span (drop at text) < length (drop at text) = simp length-drop (omega arith) in
      let b : span (drop at text) ≡ e - at = omega arith in
      let d : at + suc (span (drop at text)) ≡ e + 1 = omega arith in
      lines_ended (drop at text) a
      ∙ ap (λ (k : ℕ). line (take k (drop at text)) (lines (drop (suc (span (drop at text))) (drop at text)))) b
      ∙ ap (λ (l : List ℕ). line (take (e - at) (drop at text)) (lines l))
      (drop-drop (suc (span (drop at text))) at text ∙ ap (λ (k : ℕ). drop k text) d)

  pub endless_here : at < length text → e ≡ length text → lines (drop at text) ≡ endless (drop at text)
  endless_here h k = lines_endless (drop at text) (simp length-drop (omega arith)) (simp length-drop (omega arith))

  pub end_le : at ≤ length text → e ≤ length text
  end_le h = omega (arith, span_le (drop at text), length-drop at text)

-- ---- the line from a cursor on, where it has its 0A, and where it has none

module _ (text : List ℕ) (at : ℕ) where
  module _ (l : List ℕ) (is : Some l ≡ first_ended (lines (drop at text))) where
    size_here : span (drop at text) < length (drop at text) → (l ≡ take (span (drop at text)) (drop at text)) × (length l ≡ span (drop at text))
    size_here h =
        let e : Some l ≡ Some (take (span (drop at text)) (drop at text)) = is ∙ first_here (drop at text) h in
        let f : l ≡ take (span (drop at text)) (drop at text) = cc in
        (f, ap length f ∙ length-take-le (span (drop at text)) (drop at text) (omega arith))

    -- this line, and the lines after its 0A
    pub first_line : (lines (drop at text) ≡ line l (lines (drop (at + length l + 1) text))) × (at + length l < length text)
    first_line =
        ⊎_elim
        (λ (h : span (drop at text) < length (drop at text)).
        let s = size_here h in
        let k : at + suc (span (drop at text)) ≡ at + length l + 1 = omega (arith, s.1) in (
          lines_ended (drop at text) h
              ∙ ap (λ (x : List ℕ). line x (lines (drop (suc (span (drop at text))) (drop at text)))) (sym s.0)
              ∙ ap (λ (x : List ℕ). line l (lines x)) (drop-drop (suc (span (drop at text))) at text ∙ ap (λ (n : ℕ). drop n text) k),
          omega (arith, length-drop at text, s.1, h),
        ))
        (λ (h : length (drop at text) ≤ span (drop at text)). let e : Some l ≡ None = is ∙ first_none (drop at text) h in absurd (cc))
        (cases_lt (span (drop at text)) (length (drop at text)))

    -- the same, where the cursor goes on by the line and its 0A
    pub next_line : lines (drop at text) ≡ line l (lines (drop (at + (length l + 1)) text))
    next_line = let e : at + length l + 1 ≡ at + (length l + 1) = omega arith in first_line.0 ∙ ap (λ (n : ℕ). line l (lines (drop n text))) e

  -- a last line, which has none
  pub last_line : None ≡ first_ended (lines (drop at text)) → at < length text → lines (drop at text) ≡ endless (drop at text)
  last_line is h =
      ⊎_elim
      (λ (k : span (drop at text) < length (drop at text)).
      let e : None ≡ Some (take (span (drop at text)) (drop at text)) = is ∙ first_here (drop at text) k in absurd (cc))
      (λ (k : length (drop at text) ≤ span (drop at text)). lines_endless (drop at text) (omega (arith, length-drop at text)) k)
      (cases_lt (span (drop at text)) (length (drop at text)))

-- ---- one character on

pub here : (l : List ℕ) (i : ℕ) → i < length l → drop i l ≡ get_or l i 0 ∷ drop (i + 1) l
here l i h = rw add-one (drop-cons l i 0 h)

pub span_here : (l : List ℕ) (i : ℕ) → i < length l → get_or l i 0 ≡ LINE_END → span (drop i l) ≡ 0
span_here l i h e = rw (here l i h, eq-eqb _ _ e)

pub span_more : (l : List ℕ) (i : ℕ) → i < length l → (get_or l i 0 ≡ LINE_END → ⊥) → span (drop i l) ≡ span (drop (i + 1) l) + 1
span_more l i h e = rw (here l i h, ne_eqb _ _ e) (omega arith)

pub span_end : (l : List ℕ) (i : ℕ) → length l ≤ i → span (drop i l) ≡ 0
span_end l i h = rw (drop_of_length-le l h)

-- where none of k characters is a line end, and one more is none
module _ (l : List ℕ) (i k : ℕ) (clear : Bool) (inv : clear ≡ true → span (drop i l) ≡ k + span (drop (i + k) l)) where
  pub span_on : i + k < length l → (clear && not (eqb (get_or l (i + k) 0) LINE_END)) ≡ true → span (drop i l) ≡ k + 1 + span (drop (i + (k + 1)) l)
  span_on h t =
      let e : i + (k + 1) ≡ i + k + 1 = omega arith in
      let g = span_more l (i + k) h (eqb-false _ _ (not-true _ (and_right clear _ t))) in
      rw e (omega (arith, inv (and_left clear _ t)))

-- ---- a text is that of its lines

-- the text of lines: each with its 0A behind it
unfoldable pub text_of : Lines → List ℕ
text_of none = []
text_of (endless l) = l
text_of (line l ls) = l ++ (LINE_END ∷ text_of ls)

pub text_onto : (b : ℕ) (ls : Lines) → text_of (onto b ls) ≡ b ∷ text_of ls
unfolding text_of
text_onto b none = refl
text_onto b (endless l) = refl
text_onto b (line l ls) = refl

pub text_lines : (text : List ℕ) → text_of (lines text) ≡ text
unfolding text_of
text_lines [] = refl
text_lines (b ∷ text) =
    ⊎_elim
    (λ (t : eqb b LINE_END ≡ true). rw t (rw (eqb-true b LINE_END t) (ap (λ (x : List ℕ). LINE_END ∷ x) (text_lines text))))
    (λ (t : eqb b LINE_END ≡ false). rw t (text_onto b (lines text) ∙ ap (λ (x : List ℕ). b ∷ x) (text_lines text)))
    (test (eqb b LINE_END))
