-- Laws of a line's digits: which characters they are, and whether all are.
-- Assumes nothing.
use Rattle.std.specs.Prelude.{◌≡◌, refl, Bool, true, false, ◌&&◌, ◌||◌, List, [], ◌∷◌, ℕ, zero, suc, ◌+◌, ◌≤◌, ◌<◌, leb, length, get_or, drop}
use Rattle.std.proofs.Common.{sym, ◌∙◌, ⊎_elim, arith, drop_of_length-le}
use Rattle.std.specs.Bool.{beq}
use Rattle.std.proofs.Math.Bool.{and-true, and_assoc}
use Rattle.std.proofs.Math.Dec.{eqb-zero-suc, eqb-suc-suc}
use Rattle.theory.specs.Below.{all_below}
use Rattle.theory.proofs.Laws.Below.{all_elim}
use Rattle.theory.proofs.Laws.Tests.{test}
use Rattle.text.specs.Framed.{is_digit, first_bad, all_digits}
use Rattle.text.specs.Laws.Lines.{here}

-- ---- the digits are two ranges of characters: tried at each of the 256

same : (a b : Bool) → beq a b ≡ true → a ≡ b
same true true h = refl
same true false h = sym h
same false true h = h
same false false h = refl

pub two_ranges : (c : ℕ) → c < 256 → (leb 48 c && leb c 57 || leb 65 c && leb c 70) ≡ is_digit c
unfolding all_below is_digit
two_ranges c h = same _ _ (all_elim 256 (λ x. beq (leb 48 x && leb x 57 || leb 65 x && leb x 70) (is_digit x)) refl c h)

-- ---- whether all characters are digits: those before i, and those from i on

all_cons : (c : ℕ) (l : List ℕ) → all_digits (c ∷ l) ≡ (is_digit c && all_digits l)
all_cons c l =
    ⊎_elim
    (λ (t : is_digit c ≡ true). rw t (eqb-suc-suc (first_bad l) (length l)))
    (λ (t : is_digit c ≡ false). rw t (eqb-zero-suc (length l)))
    (test (is_digit c))

module _ (l : List ℕ) (i : ℕ) (all : Bool) (inv : (all && all_digits (drop i l)) ≡ all_digits l) where
  pub all_next : (d : Bool) → i < length l → d ≡ is_digit (get_or l i 0) → (all && d && all_digits (drop (i + 1) l)) ≡ all_digits l
  all_next d h e =
      let g : all_digits (drop i l) ≡ (d && all_digits (drop (i + 1) l)) = rw (here l i h, e) (all_cons (get_or l i 0) (drop (i + 1) l)) in
      rw (and_assoc all d (all_digits (drop (i + 1) l)), ← g) inv

  pub all_end : length l ≤ i → all ≡ all_digits l
  all_end h = sym (and-true all) ∙ (rw (drop_of_length-le l h) at inv)

-- ---- the first character that is no digit, from i on

pub bad_here : (l : List ℕ) (i : ℕ) → i < length l → is_digit (get_or l i 0) ≡ false → first_bad (drop i l) ≡ 0
bad_here l i h e = rw (here l i h, e)

pub bad_more : (l : List ℕ) (i : ℕ) → i < length l → is_digit (get_or l i 0) ≡ true → first_bad (drop i l) ≡ first_bad (drop (i + 1) l) + 1
bad_more l i h e = rw (here l i h, e) (omega arith)

pub bad_end : (l : List ℕ) (i : ℕ) → length l ≤ i → first_bad (drop i l) ≡ 0
bad_end l i h = rw (drop_of_length-le l h)

pub first_bad_le : (l : List ℕ) → first_bad l ≤ length l
first_bad_le [] = omega arith
first_bad_le (c ∷ l) =
    ⊎_elim
    (λ (t : is_digit c ≡ true). rw t (omega (arith, first_bad_le l)))
    (λ (t : is_digit c ≡ false). rw t (omega arith))
    (test (is_digit c))

-- all before it are digits, and it is none
pub bad_before : (l : List ℕ) (i : ℕ) → i < first_bad l → is_digit (get_or l i 0) ≡ true
bad_before [] i h = absurd (omega arith)
bad_before (c ∷ l) zero h =
    ⊎_elim
    (λ (t : is_digit c ≡ true). t)
    (λ (t : is_digit c ≡ false). let z : 0 < 0 = rw t at h in absurd (omega arith))
    (test (is_digit c))
bad_before (c ∷ l) (suc i) h =
    ⊎_elim
    (λ (t : is_digit c ≡ true). let z : suc i < suc (first_bad l) = rw t at h in bad_before l i (omega arith))
    (λ (t : is_digit c ≡ false). let z : suc i < 0 = rw t at h in absurd (omega arith))
    (test (is_digit c))

pub bad_is : (l : List ℕ) → first_bad l < length l → is_digit (get_or l (first_bad l) 0) ≡ false
bad_is [] h = absurd (omega arith)
bad_is (c ∷ l) h =
    ⊎_elim
    (λ (t : is_digit c ≡ true). let z : suc (first_bad l) < suc (length l) = rw t at h in rw t (bad_is l (omega arith)))
    (λ (t : is_digit c ≡ false). rw t t)
    (test (is_digit c))
