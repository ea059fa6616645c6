-- Laws of the line for the screen: where it stands, that it is the line of the place, and the search for it.
-- Assumes nothing.
use Rattle.std.specs.Prelude.{◌≡◌, true, false, List, [], ◌∷◌, ◌++◌, ℕ, zero, suc, ◌+◌, ◌-◌, ◌≤◌, ◌<◌, eqb, length, get_or, take, drop, Err, Ok, Result}
use Rattle.std.proofs.Math.Path.{refl}
use Rattle.std.proofs.Common.{sym, ap, ◌∙◌, subst, ⊎_elim, append_assoc, append-nil, arith, length-append, length-drop, length-take-le}
use Rattle.std.proofs.Math.Logic.{by_cases}
use Rattle.std.proofs.Math.Decide.{dec_lt}
use Rattle.std.proofs.Math.Seq.{take-append_seam, drop-append_seam}
use borrow.Author.Tests.{eqb-true, eqb-false, eq-eqb, ne_eqb}
use Rattle.theory.proofs.Laws.Tests.{test}
use Rattle.text.specs.Lines.{LINE_END, Lines, none, endless, line, lines, all_lines, span}
use Rattle.text.specs.Laws.Lines.{line_here, endless_here, end_le, text_of, text_lines}
use Rattle.answers.specs.declared.Refusal.{Refusal}
use Rattle.faulty_line.specs.declared.Part.{Part}
use Rattle.faulty_line.specs.declared.Part.TheVariants.{Sheet, Tape}
use Rattle.faulty_line.specs.declared.Span.{Span}
use Rattle.faulty_line.specs.Part.{has_line, spot_of, tapes_end, in_tape, in_sheet, faulty_part, shown}
pub mod Shown

-- ---- where a line stands

-- in this text these bytes stand from `from` to `to`
pub record Stands (text l : List ℕ) (g : Span) : Type 0 where
  pub begins : g.from ≤ g.to
  pub ends : g.to ≤ length text
  pub bytes : take (g.to - g.from) (drop g.from text) ≡ l

-- l stands after what is before it
stands_here : (pre l more : List ℕ) → Stands (pre ++ (l ++ more)) l (record { from = length pre; to = length pre + length l })
stands_here pre l more =
    let e : length pre + length l - length pre ≡ length l = omega arith in
    record {
      begins = omega arith;
      ends = omega (arith, length-append pre (l ++ more), length-append l more);
      bytes = ap (λ (n : ℕ). take n (drop (length pre) (pre ++ (l ++ more)))) e
          ∙ ap (take (length l)) (drop-append_seam pre (l ++ more)) ∙ take-append_seam l more;
    }

-- with k lines before it there is a line, and it stands there; or there are too few
pub data Sought (text : List ℕ) (ls : Lines) (k : ℕ) (s : Result Span ℕ) : Type 0 where
  found : (g : Span) → s ≡ Ok g → k < length (all_lines ls) → Stands text (get_or (all_lines ls) k []) g → Sought text ls k s
  passed : (n : ℕ) → s ≡ Err n → k ≡ length (all_lines ls) + n → Sought text ls k s

sought : (pre : List ℕ) (k : ℕ) (ls : Lines) → Sought (pre ++ text_of ls) ls k (spot_of (length pre) k ls)
unfolding text_of
sought pre k none = passed k refl (omega arith)
sought pre zero (endless l) = found _ refl (omega arith) (subst (λ (t : List ℕ). Stands (pre ++ t) l (record { from = length pre; to = length pre + length l })) (append-nil l) (stands_here pre l []))
sought pre (suc k) (endless l) = passed k refl (omega arith)
sought pre zero (line l ls) = found _ refl (omega arith) (stands_here pre l (LINE_END ∷ text_of ls))
sought pre (suc k) (line l ls) = more (subst (λ (n : ℕ). Sought (pre ++ (l ++ LINE_END ∷ text_of ls)) ls k (spot_of n k ls)) size (subst (λ (t : List ℕ). Sought t ls k (spot_of (length on) k ls)) same (sought on k ls)))
  where
    -- what stands before the next line
    on : List ℕ
    on = pre ++ (l ++ LINE_END ∷ [])

    size : length on ≡ length pre + length l + 1
    size = length-append pre (l ++ LINE_END ∷ []) ∙ omega (arith, length-append l (LINE_END ∷ []))

    same : on ++ text_of ls ≡ pre ++ (l ++ LINE_END ∷ text_of ls)
    same = append_assoc pre (l ++ LINE_END ∷ []) (text_of ls) ∙ ap (λ (t : List ℕ). pre ++ t) (append_assoc l (LINE_END ∷ []) (text_of ls))

    more : {s : Result Span ℕ} → Sought (pre ++ (l ++ LINE_END ∷ text_of ls)) ls k s → Sought (pre ++ (l ++ LINE_END ∷ text_of ls)) (line l ls) (suc k) s
    more (found g e h x) = found g e (omega arith) x
    more (passed n e h) = passed n e (omega arith)

-- of a text
pub line_sought : (text : List ℕ) (k : ℕ) → Sought text (lines text) k (spot_of 0 k (lines text))
line_sought text k = subst (λ (t : List ℕ). Sought t (lines text) k (spot_of 0 k (lines text))) (text_lines text) (sought [] k (lines text))

-- ---- the search, with the cursor at the start of a line, which ends at e

module _ (text : List ℕ) (at e : ℕ) (ends : e ≡ at + span (drop at text)) (inside : at < length text) where
  -- so long is it
  size_here : length (take (e - at) (drop at text)) ≡ e - at
  size_here = length-take-le (e - at) (drop at text) (omega (arith, end_le text at e ends (omega arith), length-drop at text))

  pub seek_next : (n : ℕ) → e < length text → spot_of at (suc n) (lines (drop at text)) ≡ spot_of (e + 1) n (lines (drop (e + 1) text))
  seek_next n h =
      let k : at + length (take (e - at) (drop at text)) + 1 ≡ e + 1 = omega (arith, size_here, ends) in
      rw (line_here text at e ends h) (ap (λ (x : ℕ). spot_of x n (lines (drop (e + 1) text))) k)

  pub seek_past : (n : ℕ) → e ≡ length text → spot_of at (suc n) (lines (drop at text)) ≡ Err n
  seek_past n h = rw (endless_here text at e ends inside h) refl

  pub seek_found : spot_of at 0 (lines (drop at text)) ≡ Ok (record { from = at; to = e })
  seek_found =
      by_cases (dec_lt e (length text))
      (λ (h : e < length text).
      let k : at + length (take (e - at) (drop at text)) ≡ e = omega (arith, size_here, ends) in
      rw (line_here text at e ends h) (ap (λ (x : ℕ). Ok (record { from = at; to = x })) k))
      (λ (h : ¬ (e < length text)).
      let q : e ≡ length text = omega (arith, end_le text at e ends (omega arith)) in
      let k : at + length (drop at text) ≡ e = omega (arith, length-drop at text) in
      rw (endless_here text at e ends inside q) (ap (λ (x : ℕ). Ok (record { from = at; to = x })) k))

-- ---- the part of a refusal

-- what a part has of its text
abbrev pub span_of : Part → Span
span_of (Sheet g) = g
span_of (Tape g) = g

-- it begins before its end, and ends within this text
pub record InText (text : List ℕ) (g : Span) : Type 0 where
  pub begins : g.from ≤ g.to
  pub ends : g.to ≤ length text

module _ (sheet tape : List ℕ) where
  -- a part begins before its end, and ends within its text
  abbrev pub Within : Part → Type 0
  Within (Sheet g) = InText sheet g
  Within (Tape g) = InText tape g

  end_within : Within (tapes_end tape)
  end_within = record { begins = omega arith; ends = omega arith }

  tape_within : (k : ℕ) → Within (in_tape tape (spot_of 0 k (lines tape)))
  tape_within k = by_sought (line_sought tape k)
    where
      by_sought : {s : Result Span ℕ} → Sought tape (lines tape) k s → Within (in_tape tape s)
      by_sought (found g e h x) = subst (λ (s : Result Span ℕ). Within (in_tape tape s)) (sym e) (record { begins = x.begins; ends = x.ends })
      by_sought (passed n e h) = subst (λ (s : Result Span ℕ). Within (in_tape tape s)) (sym e) end_within

  sheet_within : (k : ℕ) → Within (in_sheet tape (spot_of 0 k (lines sheet)))
  sheet_within k = by_sought (line_sought sheet k)
    where
      by_sought : {s : Result Span ℕ} → Sought sheet (lines sheet) k s → Within (in_sheet tape s)
      by_sought (found g e h x) = subst (λ (s : Result Span ℕ). Within (in_sheet tape s)) (sym e) (record { begins = x.begins; ends = x.ends })
      by_sought (passed n e h) = subst (λ (s : Result Span ℕ). Within (in_sheet tape s)) (sym e) (tape_within n)

  module _ (r : Refusal) where
    pub no_line : has_line r.name ≡ false → tapes_end tape ≡ faulty_part sheet tape r
    unfolding faulty_part
    no_line h = rw h refl

    pub no_place : has_line r.name ≡ true → r.place ≡ 0 → tapes_end tape ≡ faulty_part sheet tape r
    unfolding faulty_part
    no_place h z = rw (h, eq-eqb _ _ z) refl

    pub at_place : has_line r.name ≡ true → ¬ (r.place ≡ 0) → in_sheet tape (spot_of 0 (r.place - 1) (lines sheet)) ≡ faulty_part sheet tape r
    unfolding faulty_part
    at_place h z = rw (h, ne_eqb _ _ z) refl

    pub part_within : Within (faulty_part sheet tape r)
    part_within =
        ⊎_elim
        (λ (h : has_line r.name ≡ true).
        ⊎_elim
        (λ (z : eqb r.place 0 ≡ true). subst Within (no_place h (eqb-true _ _ z)) end_within)
        (λ (z : eqb r.place 0 ≡ false). subst Within (at_place h (eqb-false _ _ z)) (sheet_within (r.place - 1)))
        (test (eqb r.place 0)))
        (λ (h : has_line r.name ≡ false). subst Within (no_line h) end_within)
        (test (has_line r.name))

    -- as the code has it: of the tape, or else of the sheet
    module _ (p : Part) (is : p ≡ faulty_part sheet tape r) where
      pub begins_so : (span_of p).from ≤ (span_of p).to
      begins_so = by_text p (subst Within (sym is) part_within)
        where
          by_text : (q : Part) → Within q → (span_of q).from ≤ (span_of q).to
          by_text (Sheet g) w = w.begins
          by_text (Tape g) w = w.begins

      text_so : (q : Part) → p ≡ q → Within q
      text_so q e = subst Within (sym is ∙ e) part_within

      pub ends_in_tape : (g : Span) → p ≡ Tape g → g.to ≤ length tape
      ends_in_tape g e = (text_so (Tape g) e).ends

      pub ends_in_sheet : (g : Span) → p ≡ Sheet g → g.to ≤ length sheet
      ends_in_sheet g e = (text_so (Sheet g) e).ends

      shows : (q : Part) → p ≡ q → shown q sheet tape ≡ shown (faulty_part sheet tape r) sheet tape
      shows q e = ap (λ (x : Part). shown x sheet tape) (sym e ∙ is)

      pub shows_tape : (g : Span) → p ≡ Tape g → take (g.to - g.from) (drop g.from tape) ≡ shown (faulty_part sheet tape r) sheet tape
      shows_tape g = shows (Tape g)

      pub shows_sheet : (g : Span) → p ≡ Sheet g → take (g.to - g.from) (drop g.from sheet) ≡ shown (faulty_part sheet tape r) sheet tape
      shows_sheet g = shows (Sheet g)
