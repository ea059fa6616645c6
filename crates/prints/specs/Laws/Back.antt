-- The other way round: a line that passes FRAME is what is printed of its bytes. So two such lines with the same bytes are the same line.
-- Assumes nothing.
use Rattle.std.specs.Prelude.{◌≡◌, refl, Bool, true, false, not, ◌||◌, List, [], ◌∷◌, ℕ, suc, ◌+◌, ◌*◌, ◌/◌, ◌%◌, ◌<◌, eqb, length}
use Rattle.std.proofs.Common.{sym, ap, ◌∙◌, ⊎_elim, arith, eqb-true, le-ltb}
use Rattle.std.proofs.Math.Logic.{by_cases}
use Rattle.std.proofs.Math.Decide.{dec_lt}
use Rattle.std.proofs.lemmas.Bool.{lt-leb}
use Rattle.theory.specs.Below.{all_below}
use Rattle.theory.proofs.Laws.Below.{all_elim}
use Rattle.theory.proofs.Laws.Tests.{test, not_both}
use Rattle.text.specs.Framed.{is_digit, first_bad, all_digits, framed}
use Rattle.frames.specs.Frame.{value, bytes_of}
use Rattle.frames.specs.Laws.Frame.{value_small}
use Rattle.prints.specs.Print.{digit_of, hex_of}
use Rattle.prints.specs.Laws.Reads.{Bytes, bytes_none, bytes_cons}

-- ---- one digit

-- what is no digit, or is the digit of its value
abbrev is_back : ℕ → Bool
is_back c = not (is_digit c) || eqb (digit_of (value c)) c

back_low : (c : ℕ) → c < 71 → is_back c ≡ true
unfolding all_below is_digit value digit_of
back_low c h = all_elim 71 is_back refl c h

-- a digit is below 71
digit_low : (c : ℕ) → is_digit c ≡ true → c < 71
unfolding is_digit
digit_low c d =
    by_cases (dec_lt c 71)
    (λ (h : c < 71). h)
    (λ (h : ¬ (c < 71)).
    let n : is_digit c ≡ false = rw (le-ltb c 48 (omega arith), lt-leb c 57 (omega arith), le-ltb c 65 (omega arith), lt-leb c 70 (omega arith)) in
    not_both d n)

digit_back : (c : ℕ) → is_digit c ≡ true → digit_of (value c) ≡ c
digit_back c d = eqb-true (digit_of (value c)) c (rw d at (back_low c (digit_low c d)))

-- ---- a line

-- its bytes are bytes
pub bytes_are : (l : List ℕ) → Bytes (bytes_of l)
bytes_are [] = bytes_none
bytes_are (a ∷ []) = bytes_none
bytes_are (a ∷ b ∷ l) = bytes_cons (16 * value a + value b) (bytes_of l) (omega (arith, value_small a, value_small b)) (bytes_are l)

-- the first of digits is one, and so are the others
first_digit : (c : ℕ) (l : List ℕ) → first_bad (c ∷ l) ≡ suc (length l) → (is_digit c ≡ true) × (first_bad l ≡ length l)
first_digit c l e =
    ⊎_elim
    (λ (d : is_digit c ≡ true). let f : suc (first_bad l) ≡ suc (length l) = rw d at e in (d, omega arith))
    (λ (d : is_digit c ≡ false). let f : ◌≡◌ {A = ℕ} 0 (suc (length l)) = rw d at e in absurd (omega arith))
    (test (is_digit c))

digits_back : (l : List ℕ) → first_bad l ≡ length l → length l % 2 ≡ 0 → hex_of (bytes_of l) ≡ l
digits_back [] e h = refl
digits_back (a ∷ []) e h = absurd (omega arith)
digits_back (a ∷ b ∷ l) e h =
    let x = first_digit a (b ∷ l) e in
    let y = first_digit b l x.1 in
    let n : length l % 2 ≡ 0 = omega arith in
    let p : (16 * value a + value b) / 16 ≡ value a = omega (arith, value_small a, value_small b) in
    let q : (16 * value a + value b) % 16 ≡ value b = omega (arith, value_small a, value_small b) in
    let high : digit_of ((16 * value a + value b) / 16) ≡ a = ap digit_of p ∙ digit_back a x.0 in
    let low : digit_of ((16 * value a + value b) % 16) ≡ b = ap digit_of q ∙ digit_back b y.0 in
    let rest : hex_of (bytes_of l) ≡ l = digits_back l y.1 n in
    λ i. high i ∷ low i ∷ rest i

-- THE LAW
pub line_back : (l : List ℕ) → framed l ≡ true → hex_of (bytes_of l) ≡ l
unfolding framed
line_back l f =
    ⊎_elim
    (λ (z : eqb (length l) 0 ≡ true). absurd (let w : false ≡ true = rw z at f in not_both {b = false} w refl))
    (λ (z : eqb (length l) 0 ≡ false).
    ⊎_elim
    (λ (d : all_digits l ≡ true). digits_back l (eqb-true (first_bad l) (length l) d) (eqb-true (length l % 2) 0 (rw (z, d) at f)))
    (λ (d : all_digits l ≡ false). absurd (let w : false ≡ true = rw (z, d) at f in not_both {b = false} w refl))
    (test (all_digits l)))
    (test (eqb (length l) 0))

-- so the bytes of a framed line tell the line
pub line_one : (l m : List ℕ) → framed l ≡ true → framed m ≡ true → bytes_of l ≡ bytes_of m → l ≡ m
line_one l m f g e = sym (line_back l f) ∙ ap hex_of e ∙ line_back m g
