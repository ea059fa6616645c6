-- The two parts of an input, by its lines: those of the sheet are the lines up to and with the first that begins F0, and those of the tape the lines after it. An input is the text of
-- its lines, so that its first bytes, as many as the sheet's lines have, are the text of the sheet's lines; and lines are read back from their text.
-- Assumes nothing.
use Rattle.std.specs.Prelude.{◌≡◌, refl, true, false, List, [], ◌∷◌, ◌++◌, ℕ, suc, ◌≤◌, ◌<◌, eqb, length, take, drop}
use Rattle.std.proofs.Common.{sym, ap, ◌∙◌, ⊎_elim, append-nil, append_assoc, arith, length-append, take-append-drop}
use Rattle.std.proofs.Math.Seq.{take-append_seam, drop-append_seam}
use Rattle.theory.proofs.Laws.Tests.{test}
use Rattle.text.specs.Lines.{LINE_END, Lines, none, endless, line, onto, lines}
use Rattle.text.specs.Laws.Lines.{text_of, text_lines}
use Rattle.day_split.specs.Split.{begins_end, up_to_end, after_end, byte_count, sheet_bytes, sheet_part, tape_part}

-- ---- a text, and its lines

text_size : (ls : Lines) → length (text_of ls) ≡ byte_count ls
unfolding text_of byte_count
text_size none = refl
text_size (endless l) = refl
text_size (line l ls) = let e : length (LINE_END ∷ text_of ls) ≡ suc (length (text_of ls)) = refl in omega (arith, length-append l (LINE_END ∷ text_of ls), e, text_size ls)

-- ---- lines that are those of a text: no 0A stands in one, and a last one without an end is not empty

free : List ℕ → Type 0
free [] = Unit {0}
free (b ∷ l) = (eqb b LINE_END ≡ false) × free l

Clean : Lines → Type 0
Clean none = Unit {0}
Clean (endless l) = free l × (0 < length l)
Clean (line l ls) = free l × Clean ls

clean_onto : (b : ℕ) (ls : Lines) → eqb b LINE_END ≡ false → Clean ls → Clean (onto b ls)
unfolding free Clean
clean_onto b none f c = ((f, tt), omega arith)
clean_onto b (endless l) f c = ((f, c.0), omega arith)
clean_onto b (line l ls) f c = ((f, c.0), c.1)

clean_lines : (text : List ℕ) → Clean (lines text)
unfolding free Clean
clean_lines [] = tt
clean_lines (b ∷ text) =
    ⊎_elim
    (λ (t : eqb b LINE_END ≡ true). rw t (tt, clean_lines text))
    (λ (t : eqb b LINE_END ≡ false). rw t (clean_onto b (lines text) t (clean_lines text)))
    (test (eqb b LINE_END))

clean_up : (ls : Lines) → Clean ls → Clean (up_to_end ls)
unfolding Clean up_to_end
clean_up none c = tt
clean_up (endless l) c = c
clean_up (line l ls) c =
    ⊎_elim
    (λ (t : begins_end l ≡ true). rw t (c.0, tt))
    (λ (t : begins_end l ≡ false). rw t (c.0, clean_up ls c.1))
    (test (begins_end l))

clean_after : (ls : Lines) → Clean ls → Clean (after_end ls)
unfolding Clean after_end
clean_after none c = tt
clean_after (endless l) c = tt
clean_after (line l ls) c =
    ⊎_elim
    (λ (t : begins_end l ≡ true). rw t c.1)
    (λ (t : begins_end l ≡ false). rw t (clean_after ls c.1))
    (test (begins_end l))

read_line : (l text : List ℕ) → free l → lines (l ++ (LINE_END ∷ text)) ≡ line l (lines text)
unfolding free
read_line [] text f = refl
read_line (b ∷ l) text f = rw f.0 (ap (onto b) (read_line l text f.1))

read_endless : (b : ℕ) (l : List ℕ) → free (b ∷ l) → lines (b ∷ l) ≡ endless (b ∷ l)
unfolding free
read_endless b [] f = rw f.0 refl
read_endless b (c ∷ l) f = rw f.0 (ap (onto b) (read_endless c l f.1))

-- such lines are read back from their text
lines_text : (ls : Lines) → Clean ls → lines (text_of ls) ≡ ls
unfolding text_of Clean
lines_text none c = refl
lines_text (endless []) c = absurd (omega (arith, c.1))
lines_text (endless (b ∷ l)) c = read_endless b l c.0
lines_text (line l ls) c = read_line l (text_of ls) c.0 ∙ ap (line l) (lines_text ls c.1)

-- ---- the two parts

both_parts : (ls : Lines) → text_of (up_to_end ls) ++ text_of (after_end ls) ≡ text_of ls
unfolding text_of up_to_end after_end
both_parts none = refl
both_parts (endless l) = append-nil l
both_parts (line l ls) =
    ⊎_elim
    (λ (t : begins_end l ≡ true). rw t (append_assoc l (LINE_END ∷ []) (text_of ls)))
    (λ (t : begins_end l ≡ false). rw t (append_assoc l (LINE_END ∷ text_of (up_to_end ls)) (text_of (after_end ls)) ∙ ap (λ (x : List ℕ). l ++ (LINE_END ∷ x)) (both_parts ls)))
    (test (begins_end l))

module _ (input : List ℕ) where
  abbrev sheet : List ℕ
  sheet = text_of (up_to_end (lines input))

  abbrev tape : List ℕ
  tape = text_of (after_end (lines input))

  is_whole : input ≡ sheet ++ tape
  is_whole = sym (both_parts (lines input) ∙ text_lines input)

  sheet_is : sheet_part input ≡ sheet
  sheet_is = (λ i. take (sym (text_size (up_to_end (lines input))) i) (is_whole i)) ∙ take-append_seam sheet tape

  tape_is : tape_part input ≡ tape
  tape_is = (λ i. drop (sym (text_size (up_to_end (lines input))) i) (is_whole i)) ∙ drop-append_seam sheet tape

  -- THE LAWS: the sheet's lines are those up to and with the first that begins F0, or all of them,
  pub sheet_lines_lem : lines (sheet_part input) ≡ up_to_end (lines input)
  sheet_lines_lem = ap lines sheet_is ∙ lines_text (up_to_end (lines input)) (clean_up (lines input) (clean_lines input))

  -- the tape's are those after it,
  pub tape_lines : lines (tape_part input) ≡ after_end (lines input)
  tape_lines = ap lines tape_is ∙ lines_text (after_end (lines input)) (clean_after (lines input) (clean_lines input))

  -- and the two parts make up the input
  pub parts_whole : sheet_part input ++ tape_part input ≡ input
  parts_whole = take-append-drop (sheet_bytes (lines input)) input

  pub sheet_bytes_le : sheet_bytes (lines input) ≤ length input
  sheet_bytes_le = omega (arith, ap length is_whole, length-append sheet tape, text_size (up_to_end (lines input)))
