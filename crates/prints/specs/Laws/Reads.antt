-- What is printed reads back, by the reader's own definitions: a frame's line is one line, whose digits are a frame's, whose bytes are the printed ones and the check, and whose
-- sum is a multiple of 256.
-- Assumes nothing.
use Rattle.std.specs.Prelude.{◌≡◌, refl, true, false, not, List, [], ◌∷◌, ◌++◌, ℕ, zero, suc, ◌+◌, ◌/◌, ◌%◌, ◌<◌, eqb, length, get_or}
use Rattle.std.proofs.Common.{ap, ap₂, ◌∙◌, append_assoc, arith, eq-eqb, ne_eqb, eqb-true}
use Rattle.std.proofs.lemmas.Bool.{not-true}
use Rattle.theory.specs.Below.{all_below}
use Rattle.theory.proofs.Laws.Below.{all_elim}
use Rattle.text.specs.Lines.{LINE_END, line, lines}
use Rattle.text.specs.Framed.{is_digit, first_bad, framed}
use Rattle.frames.specs.Frame.{value, bytes_of, sum, checked}
use Rattle.prints.specs.Print.{digit_of, hex_of, check_of, line_of}
use Rattle.prints.specs.Laws.Lengths.{length_hex}

-- each is a byte
abbrev pub Bytes : List ℕ → Type 0
Bytes f = (i : ℕ) → get_or f i 0 < 256

pub bytes_none : Bytes []
bytes_none i = omega arith

pub bytes_cons : (b : ℕ) (f : List ℕ) → b < 256 → Bytes f → Bytes (b ∷ f)
bytes_cons b f h k zero = h
bytes_cons b f h k (suc i) = k i

pub bytes_append : (f g : List ℕ) → Bytes f → Bytes g → Bytes (f ++ g)
bytes_append [] g h k = k
bytes_append (b ∷ f) g h k = bytes_cons b (f ++ g) (h 0) (bytes_append f g (λ i. h (suc i)) k)

-- ---- the sixteen digits, one by one

digit_value : (d : ℕ) → d < 16 → value (digit_of d) ≡ d
unfolding all_below value digit_of
digit_value d h = eqb-true _ _ (all_elim 16 (λ x. eqb (value (digit_of x)) x) refl d h)

digit_digit : (d : ℕ) → d < 16 → is_digit (digit_of d) ≡ true
unfolding all_below is_digit digit_of
digit_digit d h = all_elim 16 (λ x. is_digit (digit_of x)) refl d h

digit_inside : (d : ℕ) → d < 16 → eqb (digit_of d) LINE_END ≡ false
unfolding all_below digit_of
digit_inside d h = not-true _ (all_elim 16 (λ x. not (eqb (digit_of x) LINE_END)) refl d h)

-- ---- a frame's digits

pub bytes_hex : (f : List ℕ) → Bytes f → bytes_of (hex_of f) ≡ f
bytes_hex [] h = refl
bytes_hex (b ∷ f) h =
    let k : b < 256 = h 0 in
    ap₂ (λ (x : ℕ) (r : List ℕ). x ∷ r)
    (omega (arith, digit_value (b / 16) (omega arith), digit_value (b % 16) (omega arith)))
    (bytes_hex f (λ i. h (suc i)))

all_digits_lem : (f : List ℕ) → Bytes f → first_bad (hex_of f) ≡ length (hex_of f)
all_digits_lem [] h = refl
all_digits_lem (b ∷ f) h =
    let k : b < 256 = h 0 in
    rw (digit_digit (b / 16) (omega arith), digit_digit (b % 16) (omega arith), all_digits_lem f (λ i. h (suc i)))

pub framed_hex : (f : List ℕ) → Bytes f → 0 < length f → framed (hex_of f) ≡ true
unfolding framed
framed_hex f h k =
    rw (ne_eqb (length (hex_of f)) 0 (λ e. absurd (omega (arith, length_hex f))), eq-eqb _ _ (all_digits_lem f h))
    (eq-eqb (length (hex_of f) % 2) 0 (omega (arith, length_hex f)))

-- ---- the check

sum_append : (f g : List ℕ) → sum (f ++ g) ≡ sum f + sum g
sum_append [] g = omega arith
sum_append (b ∷ f) g = omega (arith, sum_append f g)

pub checked_check : (f : List ℕ) → checked (f ++ (check_of f ∷ [])) ≡ true
unfolding checked check_of
checked_check f = eq-eqb (sum (f ++ (check_of f ∷ [])) % 256) 0 (omega (arith, sum_append f (check_of f ∷ [])))

pub bytes_check : (f : List ℕ) → Bytes f → Bytes (f ++ (check_of f ∷ []))
unfolding check_of
bytes_check f h = bytes_append f (check_of f ∷ []) h (bytes_cons (check_of f) [] (omega arith) bytes_none)

-- ---- the line

hex_line : (f text : List ℕ) → Bytes f → lines (hex_of f ++ LINE_END ∷ text) ≡ line (hex_of f) (lines text)
hex_line [] text h = refl
hex_line (b ∷ f) text h =
    let k : b < 256 = h 0 in
    rw (digit_inside (b / 16) (omega arith), digit_inside (b % 16) (omega arith), hex_line f text (λ i. h (suc i)))

pub line_reads : (f text : List ℕ) → Bytes f → lines (line_of f ++ text) ≡ line (hex_of (f ++ (check_of f ∷ []))) (lines text)
line_reads f text h =
    ap lines (append_assoc (hex_of (f ++ (check_of f ∷ []))) (LINE_END ∷ []) text) ∙ hex_line (f ++ (check_of f ∷ [])) text (bytes_check f h)
