-- A text is cut into its lines and its rest in one way only, and `lines` does it so.
-- Assumes nothing.
use Rattle.std.specs.Prelude.{◌≡◌, refl, ◌↔◌, true, false, List, [], ◌∷◌, ◌++◌, ℕ, zero, suc, ◌<◌, eqb, length, get_or}
use Rattle.std.proofs.Common.{sym, ap, ◌∙◌, subst, ⊎_elim, append_assoc, arith, eqb-true, ne_eqb}
use Rattle.std.proofs.lemmas.Bool.{eqb-false}
use Rattle.theory.proofs.Laws.Tests.{test}
use Rattle.text.specs.Lines.{LINE_END, Lines, none, endless, line, onto, lines}
use Rattle.line_by_line.specs.Lines.{ended_lines, left_over, lines_in, rest_in, joined, Unbroken, CutInto}

-- ---- one byte more in front

module _ (b : ℕ) (other : ¬ (b ≡ LINE_END)) where
  -- a byte that is no 0A leaves a line unbroken
  longer : (l : List ℕ) → Unbroken l → Unbroken (b ∷ l)
  longer l u zero h = other
  longer l u (suc i) h = u i (omega arith)

  -- and belongs to the first line
  cut_onto : (text : List ℕ) (x : Lines) → CutInto text (ended_lines x) (left_over x) → CutInto (b ∷ text) (ended_lines (onto b x)) (left_over (onto b x))
  cut_onto text none c = record { bytes = ap (λ (r : List ℕ). b ∷ r) c.bytes; each_line = c.each_line; the_rest = longer [] c.the_rest }
  cut_onto text (endless l) c = record { bytes = ap (λ (r : List ℕ). b ∷ r) c.bytes; each_line = c.each_line; the_rest = longer l c.the_rest }
  cut_onto text (line l ls) c = record { bytes = ap (λ (r : List ℕ). b ∷ r) c.bytes; each_line = each; the_rest = c.the_rest }
    where
      each : (k : ℕ) → k < length (ended_lines (line (b ∷ l) ls)) → Unbroken (get_or (ended_lines (line (b ∷ l) ls)) k [])
      each zero h = longer l (c.each_line zero (omega arith))
      each (suc k) h = c.each_line (suc k) h

-- a line end in front
cut_line : (b : ℕ) → b ≡ LINE_END → (text : List ℕ) (ls : List (List ℕ)) (rest : List ℕ) → CutInto text ls rest → CutInto (b ∷ text) ([] ∷ ls) rest
cut_line b e text ls rest c = record { bytes = λ i. e i ∷ c.bytes i; each_line = each; the_rest = c.the_rest }
  where
    each : (k : ℕ) → k < length ([] ∷ ls) → Unbroken (get_or ([] ∷ ls) k [])
    each zero h = λ i g. absurd (omega arith)
    each (suc k) h = c.each_line k (omega arith)

-- so `lines` cuts a text
cut_so : (text : List ℕ) → CutInto text (lines_in text) (rest_in text)
cut_so [] = record { bytes = refl; each_line = λ k h. absurd (omega arith); the_rest = λ i h. absurd (omega arith) }
cut_so (b ∷ text) =
    ⊎_elim
    (λ (t : eqb b LINE_END ≡ true). rw t (cut_line b (eqb-true b LINE_END t) text (lines_in text) (rest_in text) (cut_so text)))
    (λ (t : eqb b LINE_END ≡ false). rw t (cut_onto b (eqb-false b LINE_END t) text (lines text) (cut_so text)))
    (test (eqb b LINE_END))

-- ---- and in no other way

-- what is unbroken is so without its first byte
shorter : (b : ℕ) (l : List ℕ) → Unbroken (b ∷ l) → Unbroken l
shorter b l u i h = u (suc i) (omega arith)

-- a line with its 0A in front
line_in_front : (l more : List ℕ) → Unbroken l → lines (l ++ LINE_END ∷ more) ≡ line l (lines more)
line_in_front [] more u = refl
line_in_front (b ∷ l) more u = rw (ne_eqb b LINE_END (u zero (omega arith)), line_in_front l more (shorter b l u)) refl

-- what has no 0A is a last line, or nothing
abbrev lastly : List ℕ → Lines
lastly [] = none
lastly (b ∷ l) = endless (b ∷ l)

-- with a byte more in front it is a last line
onto_last : (b : ℕ) (l : List ℕ) → onto b (lastly l) ≡ endless (b ∷ l)
onto_last b [] = refl
onto_last b (d ∷ l) = refl

-- so are the lines of what has no 0A
rest_alone : (l : List ℕ) → Unbroken l → lines l ≡ lastly l
rest_alone [] u = refl
rest_alone (b ∷ l) u = rw (ne_eqb b LINE_END (u zero (omega arith))) (ap (onto b) (rest_alone l (shorter b l u)) ∙ onto_last b l)

-- lines, and then that
abbrev then : List (List ℕ) → List ℕ → Lines
then [] rest = lastly rest
then (l ∷ ls) rest = line l (then ls rest)

-- so are the lines of lines that are joined
lines_then : (ls : List (List ℕ)) (rest : List ℕ) → ((k : ℕ) → k < length ls → Unbroken (get_or ls k [])) → Unbroken rest → lines (joined ls ++ rest) ≡ then ls rest
lines_then [] rest each u = rest_alone rest u
lines_then (l ∷ ls) rest each u =
    ap lines (append_assoc l (LINE_END ∷ joined ls) rest)
    ∙ line_in_front l (joined ls ++ rest) (each zero (omega arith))
    ∙ ap (line l) (lines_then ls rest (λ k h. each (suc k) (omega arith)) u)

-- those lines, and that rest
ended_then : (ls : List (List ℕ)) (rest : List ℕ) → ended_lines (then ls rest) ≡ ls
ended_then [] [] = refl
ended_then [] (b ∷ rest) = refl
ended_then (l ∷ ls) rest = ap (λ (r : List (List ℕ)). l ∷ r) (ended_then ls rest)

left_then : (ls : List (List ℕ)) (rest : List ℕ) → left_over (then ls rest) ≡ rest
left_then [] [] = refl
left_then [] (b ∷ rest) = refl
left_then (l ∷ ls) rest = left_then ls rest

-- THE LAW: a text is cut into its lines and its rest, and into no others
pub lines_are : (text : List ℕ) (ls : List (List ℕ)) (rest : List ℕ) → CutInto text ls rest ↔ ((ls ≡ lines_in text) × (rest ≡ rest_in text))
lines_are text ls rest = (
  (λ c.
      let e : lines text ≡ then ls rest = ap lines c.bytes ∙ lines_then ls rest c.each_line c.the_rest in
      (sym (ap ended_lines e ∙ ended_then ls rest), sym (ap left_over e ∙ left_then ls rest))),
  (λ x. subst (λ (y : List (List ℕ)). CutInto text y rest) (sym x.0) (subst (CutInto text (lines_in text)) (sym x.1) (cut_so text))),
)

-- ---- a last line without 0A is not empty

-- what is left over is nothing where all lines have their 0A, and else the last line
abbrev pub Left : List ℕ → Lines → Type 0
Left rest none = rest ≡ []
Left rest (endless l) = (rest ≡ l) × ¬ (rest ≡ [])
Left rest (line l ls) = Left rest ls

-- a byte and more is not nothing
not_empty : (b : ℕ) (l : List ℕ) → ¬ (b ∷ l ≡ [])
not_empty b l e = let w : suc (length l) ≡ 0 = ap length e in omega arith

-- it stays so with a byte more in front
left_onto : (b : ℕ) (x : Lines) → Left (left_over x) x → Left (left_over (onto b x)) (onto b x)
left_onto b none h = (refl, not_empty b [])
left_onto b (endless l) h = (refl, not_empty b l)
left_onto b (line l ls) h = h

-- it is so of a text's lines
pub left_so : (text : List ℕ) → Left (rest_in text) (lines text)
left_so [] = refl
left_so (b ∷ text) =
    ⊎_elim
    (λ (t : eqb b LINE_END ≡ true). rw t (left_so text))
    (λ (t : eqb b LINE_END ≡ false). rw t (left_onto b (lines text) (left_so text)))
    (test (eqb b LINE_END))
