-- Where `memchr` finds the first 0A of a text, its first line ends.
-- Assumes nothing.
use Rattle.std.specs.Prelude.{◌≡◌, refl, true, false, List, [], ◌∷◌, ℕ, zero, suc, ◌-◌, ◌<◌, Option, None, Some, eqb, length, take, drop}
use Rattle.std.proofs.Common.{sym, ap, ◌∙◌, ⊎_elim, arith, length-drop, take_all}
use Rattle.std.specs.Option.{unwrap_or}
use Rattle.memchr.specs.Find.{Nowhere, Passes, IsFirstByte, is_byte}
use Rattle.theory.proofs.Laws.Tests.{test}
use Rattle.text.specs.Lines.{LINE_END, lines, first_ended, span}
use Rattle.text.specs.Laws.Lines.{first_here, first_none}

-- what is left of a text from a cursor on, as it is lent
pub rest_all : (text : List ℕ) (at : ℕ) → take (length text - at) (drop at text) ≡ drop at text
rest_all text at = take_all (length text - at) (drop at text) (omega (arith, length-drop at text))

-- none of the first n characters is a 0A
abbrev Clear : List ℕ → ℕ → Type 0
Clear l n = Nowhere (Passes (is_byte LINE_END) l) 0 n

clear_on : (b : ℕ) (l : List ℕ) (n : ℕ) → Clear (b ∷ l) (suc n) → Clear l n
clear_on b l n h k low high p = h (suc k) (omega arith) (omega arith) p

span_clear : (l : List ℕ) → Clear l (length l) → span l ≡ length l
span_clear [] h = refl
span_clear (b ∷ l) h =
    ⊎_elim
    (λ (t : eqb b LINE_END ≡ true). absurd (h 0 (omega arith) (omega arith) t))
    (λ (t : eqb b LINE_END ≡ false). rw t (ap suc (span_clear l (clear_on b l (length l) h))))
    (test (eqb b LINE_END))

span_first : (l : List ℕ) (k : ℕ) → k < length l → Clear l k → Passes (is_byte LINE_END) l k → span l ≡ k
span_first [] k h n p = absurd (omega arith)
span_first (b ∷ l) zero h n p = rw p refl
span_first (b ∷ l) (suc k) h n p =
    ⊎_elim
    (λ (t : eqb b LINE_END ≡ true). absurd (n 0 (omega arith) (omega arith) t))
    (λ (t : eqb b LINE_END ≡ false). rw t (ap suc (span_first l k (omega arith) (clear_on b l k n) p)))
    (test (eqb b LINE_END))

pub span_found : (l : List ℕ) (r : Option ℕ) → IsFirstByte (is_byte LINE_END) l r → unwrap_or r (length l) ≡ span l
span_found l None h = sym (span_clear l h)
span_found l (Some k) h = sym (span_first l k h.0.high h.0.before h.1)

-- the first line: as many characters as stand before the 0A that is found; none where none is found
pub first_found : (l : List ℕ) (k : ℕ) → IsFirstByte (is_byte LINE_END) l (Some k) → Some (take k l) ≡ first_ended (lines l)
first_found l k h =
    let s : k ≡ span l = span_found l (Some k) h in
    let b : span l < length l = omega (arith, h.0.high) in
    sym (first_here l b ∙ ap (λ (n : ℕ). Some (take n l)) (sym s))

pub first_missed : (l : List ℕ) → IsFirstByte (is_byte LINE_END) l None → None ≡ first_ended (lines l)
first_missed l h =
    let s : length l ≡ span l = span_found l None h in
    sym (first_none l (omega arith))
