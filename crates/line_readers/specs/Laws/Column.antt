-- Laws of the column of a line's refusal: a pass has none, which test gave it, and that it lies in the line or one past its end. And of lines in order: a refusal is at one of them, or after the last.
-- Assumes nothing.
use Rattle.std.specs.Prelude.{◌≡◌, ◌⊎◌, true, false, ltb, leb, eqb, length, get_or, Err, Ok}
use Rattle.std.proofs.Math.Path.{refl}
use Rattle.std.proofs.Common.{sym, ◌∙◌, subst, ⊎_elim, arith, ltb-false, leb-true, le-leb, le-ltb, eqb-true}
use Rattle.std.proofs.Math.Logic.{inl, inr, by_cases}
use mathlib.Core.List.{List, [], ◌∷◌}
use Prim.Native.Nat.{ℕ, suc, ◌+◌, ◌-◌, ◌%◌, ◌≤◌, ◌<◌}
use Rattle.std.proofs.Math.Decide.{dec_lt}
use Rattle.std.proofs.lemmas.Bool.{lt-leb, eqb-false}
use Rattle.theory.proofs.Laws.Tests.{test, not_both}
use Rattle.answers.specs.declared.Name.{Name}
use Rattle.answers.specs.declared.Name.TheVariants.{Length, Frame, Check, Kind, Field, TooMany, Count, Loop, Request, Last}
use Rattle.answers.specs.declared.Refusal.{Refusal}
use Rattle.answers.specs.Answers.{refusal, Verdict, pass}
use Rattle.answers.proofs.Laws.{no_pass, refused_same}
use Rattle.text.specs.Lines.{Lines, none, endless, line, all_lines}
use Rattle.text.specs.Framed.{is_digit, first_bad, all_digits, framed, frame_column}
use Rattle.text.specs.Laws.Framed.{first_bad_le, bad_before, bad_is}
use Rattle.line_readers.specs.declared.Tests.{Tests}
use Rattle.line_readers.specs.Column.{byte_column, column_of, in_line, located}
use Rattle.line_readers.specs.Says.{Digit, FrameColumn, ColumnSays, InLine, FaultyAt}
use Rattle.line_readers.specs.Order.{in_order}
use Rattle.line_readers.specs.Walks.{Going, goes, refused, Reader, walks}
use Rattle.line_readers.specs.Laws.Walks.{same_refusal, walks_refused}

-- ---- a verdict, and the same with its column

module _ (l : List ℕ) (field : ℕ) where
  pub located_pass : (v : Verdict) → located l field v ≡ pass → v ≡ pass
  unfolding located
  located_pass (Ok tt) e = refl
  located_pass (Err r) e = no_pass _ e

  pub located_refused : (v : Verdict) (r : Refusal) → located l field v ≡ Err r → (x : Refusal) × (v ≡ Err x) × (in_line l field x ≡ r)
  unfolding located
  located_refused (Ok tt) r e = no_pass r (sym e)
  located_refused (Err x) r e = (x, refl, refused_same (in_line l field x) r e)

-- ---- which test refuses

pub data Refuses (t : Tests) (name : Name) (place : ℕ) (x : Refusal) : Type 0 where
  at_frame : x ≡ refusal Frame place → Refuses t name place x
  at_check : t.framed ≡ true → x ≡ refusal Check place → Refuses t name place x
  at_kind : x ≡ refusal Kind place → Refuses t name place x
  at_room : x ≡ refusal TooMany place → Refuses t name place x
  at_field : t.framed ≡ true → t.kind ≡ true → t.field ≡ false → x ≡ refusal Field place → Refuses t name place x
  at_last : x ≡ refusal name place → Refuses t name place x

pub order_refuses : (t : Tests) (name : Name) (place : ℕ) (x : Refusal) → in_order t name place ≡ Err x → Refuses t name place x
unfolding in_order
order_refuses t name place x e =
    ⊎_elim
    (λ (f : t.framed ≡ true).
    ⊎_elim
    (λ (c : t.checked ≡ true).
    ⊎_elim
    (λ (k : t.kind ≡ true).
    ⊎_elim
    (λ (r : t.room ≡ true).
    ⊎_elim
    (λ (d : t.field ≡ true).
    ⊎_elim
    (λ (z : t.last ≡ true). no_pass x (sym (rw (f, c, k, r, d, z) at e)))
    (λ (z : t.last ≡ false). at_last (sym (refused_same _ _ (rw (f, c, k, r, d, z) at e))))
    (test t.last))
    (λ (d : t.field ≡ false). at_field f k d (sym (refused_same _ _ (rw (f, c, k, r, d) at e))))
    (test t.field))
    (λ (r : t.room ≡ false). at_room (sym (refused_same _ _ (rw (f, c, k, r) at e))))
    (test t.room))
    (λ (k : t.kind ≡ false). at_kind (sym (refused_same _ _ (rw (f, c, k) at e))))
    (test t.kind))
    (λ (c : t.checked ≡ false). at_check f (sym (refused_same _ _ (rw (f, c) at e))))
    (test t.checked))
    (λ (f : t.framed ≡ false). at_frame (sym (refused_same _ _ (rw f at e))))
    (test t.framed)

-- ---- what the column says

-- a digit, as a number
digit_so : (c : ℕ) → is_digit c ≡ true → Digit c
unfolding is_digit
digit_so c e =
    ⊎_elim
    (λ (a : ltb c 48 ≡ true). not_both (rw a at e) refl)
    (λ (a : ltb c 48 ≡ false).
    ⊎_elim
    (λ (b : leb c 57 ≡ true). inl (ltb-false c 48 a, leb-true c 57 b))
    (λ (b : leb c 57 ≡ false).
    ⊎_elim
    (λ (d : ltb c 65 ≡ true). not_both (rw (a, b, d) at e) refl)
    (λ (d : ltb c 65 ≡ false). inr (ltb-false c 65 d, leb-true c 70 (rw (a, b, d) at e)))
    (test (ltb c 65)))
    (test (leb c 57)))
    (test (ltb c 48))

digit_is : (c : ℕ) → Digit c → is_digit c ≡ true
unfolding is_digit
digit_is c d =
    ⊎_elim
    (λ (a : (48 ≤ c) × (c ≤ 57)). rw (le-ltb c 48 a.0, le-leb c 57 a.1) refl)
    (λ (b : (65 ≤ c) × (c ≤ 70)). rw (le-ltb c 48 (omega arith), lt-leb c 57 (omega arith), le-ltb c 65 b.0) (le-leb c 70 b.1))
    d

-- FRAME
pub frame_column_says : (l : List ℕ) → FrameColumn l (frame_column l)
frame_column_says l = record { from_1 = omega arith; before = λ i h. digit_so _ (bad_before l i (omega arith)); here = by_cases (dec_lt (first_bad l) (length l)) inside past }
  where
    inside : first_bad l < length l → (frame_column l ≡ suc (length l)) ⊎ ((frame_column l ≤ length l) × (Digit (get_or l (frame_column l - 1) 0) → ⊥))
    inside h =
        let e : frame_column l - 1 ≡ first_bad l = omega arith in
        inr (omega arith, λ d. not_both (digit_is _ (subst (λ (i : ℕ). Digit (get_or l i 0)) e d)) (bad_is l h))

    past : ¬ (first_bad l < length l) → (frame_column l ≡ suc (length l)) ⊎ ((frame_column l ≤ length l) × (Digit (get_or l (frame_column l - 1) 0) → ⊥))
    past h = inl (omega (arith, h, first_bad_le l))

-- a framed line has two digits or more
pub framed_two : (l : List ℕ) → framed l ≡ true → 2 ≤ length l
unfolding framed
framed_two l h =
    ⊎_elim
    (λ (z : eqb (length l) 0 ≡ true). not_both (rw z at h) refl)
    (λ (z : eqb (length l) 0 ≡ false).
    ⊎_elim
    (λ (d : all_digits l ≡ true). omega (arith, eqb-false (length l) 0 z, eqb-true (length l % 2) 0 (rw (z, d) at h)))
    (λ (d : all_digits l ≡ false). not_both (rw (z, d) at h) refl)
    (test (all_digits l)))
    (test (eqb (length l) 0))

-- of any line that is tested in order, where the first bad field stands in it, and the last test has no column
module _ (Bad : ℕ → Type 0) (l : List ℕ) (field : ℕ) (t : Tests) (name : Name) (place : ℕ) (last_none : ColumnSays name l Bad (column_of name l field))
    (last-in : column_of name l field ≤ suc (length l)) (framed-in : t.framed ≡ true → framed l ≡ true)
    (field_in : t.framed ≡ true → t.kind ≡ true → t.field ≡ false → Bad (byte_column field) × (byte_column field ≤ suc (length l))) where
  column_within : (x : Refusal) → Refuses t name place x → InLine Bad l place (in_line l field x)
  column_within x (at_frame e) = rw e (record { at_place = refl; says = frame_column_says l; within = omega (arith, first_bad_le l) })
  column_within x (at_check f e) = rw e (record { at_place = refl; says = omega (arith, framed_two l (framed-in f)); within = omega arith })
  column_within x (at_kind e) = rw e (record { at_place = refl; says = refl; within = omega arith })
  column_within x (at_room e) = rw e (record { at_place = refl; says = refl; within = omega arith })
  column_within x (at_field f k d e) = rw e (record { at_place = refl; says = (field_in f k d).0; within = (field_in f k d).1 })
  column_within x (at_last e) = rw e (record { at_place = refl; says = last_none; within = last-in })

  pub judged_within : (r : Refusal) → located l field (in_order t name place) ≡ Err r → InLine Bad l place r
  judged_within r e =
      let y = located_refused l field (in_order t name place) r e in
      subst (InLine Bad l place) y.2 (column_within y.0 (order_refuses t name place y.0 y.1))

-- and where no field is asked
pub any_field : {Bad : ℕ → Type 0} (l : List ℕ) (place : ℕ) (r : Refusal) → InLine Bad l place r → InLine (λ k. Unit {0}) l place r
any_field {Bad = Bad} l place r i = record { at_place = i.at_place; says = any r.name i.says; within = i.within }
  where
    any : (name : Name) → ColumnSays name l Bad r.column → ColumnSays name l (λ k. Unit {0}) r.column
    any Frame h = h
    any Check h = h
    any Field h = tt
    any Length h = h
    any Kind h = h
    any TooMany h = h
    any Count h = h
    any Loop h = h
    any Request h = h
    any Last h = h

-- a line with no final 0A
pub endless_within : (Bad : ℕ → Type 0) (l : List ℕ) (place : ℕ) → InLine Bad l place (in_line l 0 (refusal Frame place))
endless_within Bad l place = record { at_place = refl; says = frame_column_says l; within = omega (arith, first_bad_le l) }

-- ---- lines in order: a refusal is at one of them, or after the last

module _ {A : Type 0} (R : Reader A) (Bad : ℕ → Type 0)
    (line_says : (s : A) (l : List ℕ) (r : Refusal) → R.takes s l ≡ refused r → InLine Bad l (R.read s + 1) r)
    (line-more : (s n : A) (l : List ℕ) → R.takes s l ≡ goes n → R.read n ≡ R.read s + 1) where
  -- after these lines
  abbrev AtEnd : A → Lines → Refusal → Type 0
  AtEnd s ls r = (n : A) × (R.ends n ≡ refused r) × (R.read n ≡ R.read s + length (all_lines ls))

  -- the first of some lines
  first_line : (l : List ℕ) (ls : List (List ℕ)) (n : ℕ) (r : Refusal) → InLine Bad l (n + 1) r → FaultyAt Bad (l ∷ ls) n r
  first_line l ls n r i =
      record { number = 0; there = omega arith; in_line = record { at_place = omega (arith, i.at_place); says = i.says; within = i.within } }

  pub faulty_at : (s : A) (ls : Lines) (r : Refusal) → walks R (goes s) ls ≡ refused r → FaultyAt Bad (all_lines ls) (R.read s) r ⊎ AtEnd s ls r
  unfolding walks
  faulty_at s none r e = inr (s, e, omega arith)
  faulty_at s (endless l) r e =
      inl (first_line l [] (R.read s) r (subst (InLine Bad l (R.read s + 1)) (same_refusal e) (endless_within Bad l (R.read s + 1))))
  faulty_at s (line l ls) r e = by_taken (R.takes s l) refl e (λ n w. faulty_at n ls r w)
    where
      -- a line later
      later : (n : A) → R.read n ≡ R.read s + 1 → FaultyAt Bad (all_lines ls) (R.read n) r → FaultyAt Bad (all_lines (line l ls)) (R.read s) r
      later n m f =
          let i = f.in_line in
          record {
            number = suc f.number;
            there = omega (arith, f.there);
            in_line = record { at_place = omega (arith, i.at_place, m); says = i.says; within = i.within };
          }

      -- by what came of the first line
      by_taken : (x : Going A) → R.takes s l ≡ x → walks R x ls ≡ refused r → ((n : A) → walks R (goes n) ls ≡ refused r → FaultyAt Bad (all_lines ls) (R.read n) r ⊎ AtEnd n ls r)
          → FaultyAt Bad (all_lines (line l ls)) (R.read s) r ⊎ AtEnd s (line l ls) r
      by_taken (refused y) t w f =
          let q : y ≡ r = same_refusal (sym (walks_refused R y ls) ∙ w) in
          inl (first_line l (all_lines ls) (R.read s) r (subst (InLine Bad l (R.read s + 1)) q (line_says s l y t)))
      by_taken (goes n) t w f =
          let m : R.read n ≡ R.read s + 1 = line-more s n l t in
          ⊎_elim
          (λ (x : FaultyAt Bad (all_lines ls) (R.read n) r). inl (later n m x))
          (λ (x : AtEnd n ls r). inr (x.0, x.1, omega (arith, x.2, m)))
          (f n w)
