-- Laws of a frame's bytes: how many, which, and their sum.
-- Assumes nothing.
use Rattle.std.specs.Prelude.{◌≡◌, refl, Bool, true, false, cond, ◌&&◌, ◌||◌, List, [], ◌∷◌, ℕ, zero, suc, ◌+◌, ◌*◌, ◌-◌, ◌/◌, ◌%◌, ◌≤◌, ◌<◌, ltb, leb, eqb, length, get_or, drop}
use Rattle.std.proofs.Common.{ap, ⊎_elim, arith, drop_of_length-le, leb-true, eqb-true, ne_eqb}
use Rattle.std.proofs.Math.ListN.{get_or-eq_default}
use Rattle.theory.specs.Below.{all_below}
use Rattle.theory.proofs.Laws.Below.{all_elim}
use Rattle.theory.proofs.Laws.Tests.{test}
use Rattle.text.specs.Laws.Lines.{here}
use Rattle.frames.specs.Frame.{value, bytes_of, sum}

-- ---- what a digit stands for, tried at each of the 256 characters

-- by tests of the two ranges of digits
pub value_by_tests : (c : ℕ) → c < 256 → cond (leb 48 c && leb c 57) (c - 48) (cond (leb 65 c && leb c 70) (c - 55) 0) ≡ value c
unfolding all_below value
value_by_tests c h =
    eqb-true _ _ (all_elim 256 (λ x. eqb (cond (leb 48 x && leb x 57) (x - 48) (cond (leb 65 x && leb x 70) (x - 55) 0)) (value x)) refl c h)

-- the digits, the last first, and what is none of them
abbrev DIGITS : List ℕ
DIGITS = 70 ∷ 69 ∷ 68 ∷ 67 ∷ 66 ∷ 65 ∷ 57 ∷ 56 ∷ 55 ∷ 54 ∷ 53 ∷ 52 ∷ 51 ∷ 50 ∷ 49 ∷ 48 ∷ []

abbrev NoneOf : List ℕ → ℕ → Type 0
NoneOf [] c = Unit
NoneOf (k ∷ ks) c = NoneOf ks c × (c ≡ k → ⊥)

among : ℕ → List ℕ → Bool
among c [] = false
among c (k ∷ ks) = eqb c k || among c ks

none_among : (c : ℕ) (ks : List ℕ) → NoneOf ks c → among c ks ≡ false
unfolding among
none_among c [] n = refl
none_among c (k ∷ ks) n = rw (ne_eqb c k n.1) (none_among c ks n.0)

pub value_none : (c : ℕ) → c < 256 → NoneOf DIGITS c → value c ≡ 0
unfolding all_below value among
value_none c h n =
    eqb-true _ _ (rw (none_among c DIGITS n) at (all_elim 256 (λ x. among x DIGITS || eqb (value x) 0) refl c h))

pub value_small : (c : ℕ) → value c < 16
unfolding value
value_small c =
    ⊎_elim
    (λ (h : ltb c 48 ≡ true). rw h (omega arith))
    (λ (h : ltb c 48 ≡ false).
    rw h
    (⊎_elim
    (λ (k : leb c 57 ≡ true). rw k (omega (arith, leb-true c 57 k)))
    (λ (k : leb c 57 ≡ false).
    rw k
    (⊎_elim
    (λ (l : ltb c 65 ≡ true). rw l (omega arith))
    (λ (l : ltb c 65 ≡ false).
    rw l
    (⊎_elim
    (λ (m : leb c 70 ≡ true). rw m (omega (arith, leb-true c 70 m)))
    (λ (m : leb c 70 ≡ false). rw m (omega arith))
    (test (leb c 70))))
    (test (ltb c 65))))
    (test (leb c 57))))
    (test (ltb c 48))

pub length_bytes : (l : List ℕ) → length (bytes_of l) ≡ length l / 2
length_bytes [] = refl
length_bytes (a ∷ []) = refl
length_bytes (a ∷ b ∷ l) = omega (arith, length_bytes l)

pub byte_here : (l : List ℕ) (i : ℕ) → i < length l / 2 → get_or (bytes_of l) i 0 ≡ 16 * value (get_or l (2 * i) 0) + value (get_or l (2 * i + 1) 0)
byte_here [] i h = absurd (omega arith)
byte_here (a ∷ []) i h = absurd (omega arith)
byte_here (a ∷ b ∷ l) zero h = refl
byte_here (a ∷ b ∷ l) (suc i) h =
    let e : 2 * suc i ≡ suc (suc (2 * i)) = omega arith in
    let g : 2 * suc i + 1 ≡ suc (suc (2 * i + 1)) = omega arith in
    let p : get_or (a ∷ b ∷ l) (2 * suc i) 0 ≡ get_or l (2 * i) 0 = ap (λ (k : ℕ). get_or (a ∷ b ∷ l) k 0) e in
    let q : get_or (a ∷ b ∷ l) (2 * suc i + 1) 0 ≡ get_or l (2 * i + 1) 0 = ap (λ (k : ℕ). get_or (a ∷ b ∷ l) k 0) g in
    cc (byte_here l i (omega arith))

pub byte_past : (l : List ℕ) (i : ℕ) → length l / 2 ≤ i → get_or (bytes_of l) i 0 ≡ 0
byte_past l i h = get_or-eq_default (bytes_of l) 0 (omega (arith, length_bytes l))

-- ---- one byte on

pub sum_more : (l : List ℕ) (i : ℕ) → i < length l → sum (drop i l) ≡ get_or l i 0 + sum (drop (i + 1) l)
sum_more l i h = rw (here l i h)

pub sum_end : (l : List ℕ) (i : ℕ) → length l ≤ i → sum (drop i l) ≡ 0
sum_end l i h = rw (drop_of_length-le l h)

-- the sum so far and that of the bytes from i on, less the multiples of 256, with the digits a and b of byte i
pub sum_next : (l : List ℕ) (i t a b s : ℕ) → i < length l / 2 → a ≡ value (get_or l (2 * i) 0) → b ≡ value (get_or l (2 * i + 1) 0) → (t + sum (drop i (bytes_of l))) % 256 ≡ s → ((t + 16 * a + b) % 256 + sum (drop (i + 1) (bytes_of l))) % 256 ≡ s
sum_next l i t a b s h p q e =
    let g : sum (drop i (bytes_of l)) ≡ 16 * a + b + sum (drop (i + 1) (bytes_of l)) =
    omega (arith, sum_more (bytes_of l) i (omega (arith, length_bytes l)), byte_here l i h) in
    omega arith
