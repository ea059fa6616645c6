-- How long what is written is: a good line has two characters for each byte of its frame, so the header's line has 9 bytes with its 0A, a periodic row's 37, a trigger's at most 31, the end's 11.
-- Assumes nothing.
use Rattle.std.specs.Prelude.{◌≡◌, refl, true, false, List, [], ◌∷◌, ◌++◌, ℕ, zero, suc, ◌+◌, ◌*◌, ◌%◌, ◌≤◌, ◌<◌, length, get_or, drop}
use Rattle.std.proofs.Common.{sym, ap, ap₂, ◌∙◌, mul-suc, arith, length-append, length-drop, drop_at}
use Rattle.std.proofs.Math.Logic.{⊎_elim}
use Rattle.std.proofs.Math.Dec.{eqb}
use borrow.Author.Tests.{eqb-true}
use Rattle.theory.specs.Numbers.{SHEET_BYTES}
use Rattle.theory.specs.Sheet.{GoodOrder}
use Rattle.theory.proofs.Laws.Tests.{test, not_both}
use Rattle.text.specs.Lines.{LINE_END}
use Rattle.text.specs.Framed.{is_digit, first_bad, all_digits, framed}
use Rattle.frames.specs.Frame.{bytes_of}
use Rattle.frames.specs.Laws.Frame.{length_bytes}
use Rattle.tables.specs.Lent.{Rules, sheet_in}
use Rattle.line_by_line.specs.Lines.{joined, Unbroken}
use Rattle.writer.specs.Outcome.{Writes, AtFront}
use Rattle.writer.proofs.Laws.OneLine.{header_size, periodic_size, trigger_size, end_size}
use Rattle.writer.proofs.Laws.Room.{LONGEST, few_periodics, few_triggers, few_bodies}
use Rattle.writer.proofs.Laws.Writes.{joined_append}

-- ---- a line that passes FRAME

module _ (l : List ℕ) (f : framed l ≡ true) where
  all_digits_lem : all_digits l ≡ true
  unfolding framed
  all_digits_lem =
      ⊎_elim
      (λ (z : eqb (length l) 0 ≡ true). not_both {b = false} (rw z at f) refl)
      (λ (z : eqb (length l) 0 ≡ false).
      ⊎_elim
      (λ (d : all_digits l ≡ true). d)
      (λ (d : all_digits l ≡ false). not_both {b = false} (rw (z, d) at f) refl)
      (test (all_digits l)))
      (test (eqb (length l) 0))

  even : length l % 2 ≡ 0
  unfolding framed
  even =
      ⊎_elim
      (λ (z : eqb (length l) 0 ≡ true). not_both {b = false} (rw z at f) refl)
      (λ (z : eqb (length l) 0 ≡ false). eqb-true (length l % 2) 0 (rw (z, all_digits_lem) at f))
      (test (eqb (length l) 0))

  -- two characters a byte
  pub line_length : length l ≡ 2 * length (bytes_of l)
  line_length = omega (arith, length_bytes l, even)

-- a digit is no line end
digit_inside : (c : ℕ) → is_digit c ≡ true → ¬ (c ≡ LINE_END)
unfolding is_digit
digit_inside c d e = not_both {b = is_digit LINE_END} (sym (ap is_digit e) ∙ d) refl

digits_unbroken : (l : List ℕ) → first_bad l ≡ length l → Unbroken l
digits_unbroken [] h i b = absurd (omega arith)
digits_unbroken (c ∷ l) h i b =
    ⊎_elim
    (λ (d : is_digit c ≡ true). at d i b (λ n g. digits_unbroken l (let w : suc (first_bad l) ≡ suc (length l) = rw d at h in omega arith) n g))
    (λ (d : is_digit c ≡ false). let w : ◌≡◌ {A = ℕ} 0 (suc (length l)) = rw d at h in absurd (omega arith))
    (test (is_digit c))
  where
    at : is_digit c ≡ true → (n : ℕ) → n < length (c ∷ l) → Unbroken l → ¬ (get_or (c ∷ l) n 0 ≡ LINE_END)
    at d zero g u = digit_inside c d
    at d (suc n) g u = u n (omega arith)

-- so no 0A is in it
pub framed_unbroken : (l : List ℕ) → framed l ≡ true → Unbroken l
framed_unbroken l f = digits_unbroken l (eqb-true (first_bad l) (length l) (all_digits_lem l f))

-- ---- lines

-- as many lines, none of which is longer than w with its 0A
lines_short : (w : ℕ) (ls : List (List ℕ)) → ((i : ℕ) → i < length ls → length (get_or ls i []) + 1 ≤ w) → length (joined ls) ≤ w * length ls
lines_short w [] h = omega arith
lines_short w (l ∷ ls) h =
    let m : length (joined ls) ≤ w * length ls = lines_short w ls (λ i b. h (suc i) (omega arith)) in
    omega (arith, length-append l (LINE_END ∷ joined ls), h 0 (omega arith), mul-suc w (length ls))

-- THE LAW: what is written of tables in good order has at most 12,692 bytes
pub writes_short : (R : Rules) → GoodOrder (sheet_in R) → (ls : List (List ℕ)) → Writes R ls → length (joined ls) ≤ LONGEST
writes_short R good ls x =
    let n : ℕ = R.counts.periodics in
    let m : ℕ = R.counts.triggers in
    let h : length x.header ≡ 8 = omega (arith, line_length x.header x.is_header.good.frame, header_size _ _ x.is_header) in
    let e : length x.end ≡ 10 = omega (arith, line_length x.end x.is_end.good.frame, end_size n m _ x.is_end) in
    let p : length (joined x.periodics) ≤ 37 * length x.periodics =
    lines_short 37 x.periodics (λ i b.
    let y = x.each_periodic i (omega (arith, x.periodic_count)) in
    omega (arith, line_length (get_or x.periodics i []) y.good.frame, periodic_size R.tables.periodics i _ y)) in
    let t : length (joined x.triggers) ≤ 31 * length x.triggers =
    lines_short 31 x.triggers (λ i b.
    let g : i < m = omega (arith, x.trigger_count) in
    let y = x.each_trigger i g in
    let few = few_bodies R good i g in
    omega (arith, line_length (get_or x.triggers i []) y.good.frame, trigger_size R.tables.triggers i _ y, few.0, few.1)) in
    let tail : List (List ℕ) = x.triggers ++ x.end ∷ [] in
    omega (
      arith,
      ap (λ (r : List (List ℕ)). length (joined r)) x.lines,
      length-append x.header (LINE_END ∷ joined (x.periodics ++ tail)),
      ap length (joined_append x.periodics tail),
      length-append (joined x.periodics) (joined tail),
      ap length (joined_append x.triggers (x.end ∷ [])),
      length-append (joined x.triggers) (joined (x.end ∷ [])),
      length-append x.end (LINE_END ∷ []),
      h,
      e,
      p,
      t,
      x.periodic_count,
      x.trigger_count,
      few_periodics R good,
      few_triggers R good,
    )

-- so what stands at the front of a buffer leaves what lies past it, and the buffer's length
pub front_stays : (R : Rules) → GoodOrder (sheet_in R) → (out : List ℕ) → length out ≡ SHEET_BYTES → (written : ℕ) (out' : List ℕ) → AtFront R out written out'
    → (drop written out' ≡ drop written out) × (length out' ≡ length out)
front_stays R good out whole written out' f =
    let n : ℕ = length (joined f.sent) in
    let short : n ≤ LONGEST = writes_short R good f.sent f.writes in (
      ap₂ drop f.size f.buffer ∙ drop_at (joined f.sent) (drop n out) n refl ∙ ap (λ (k : ℕ). drop k out) (sym f.size),
      omega (arith, ap length f.buffer, length-append (joined f.sent) (drop n out), length-drop n out),
    )
