-- Laws of what is pasted into a buffer piece by piece: a byte's digits, a frame's, a line.
-- Assumes nothing.
use Rattle.std.specs.Prelude.{◌≡◌, refl, List, [], ◌∷◌, ◌++◌, ℕ, ◌+◌, ◌*◌, ◌/◌, ◌%◌, ◌≤◌, ◌<◌, length, get_or, set, take, drop}
use Rattle.std.proofs.Common.{sym, ap, ap₂, ◌∙◌, append_assoc, add-one, arith, length-append, take_all, take-suc, drop-drop, length-take-le}
use Rattle.std.proofs.Math.Seq.{paste, take-length}
use Rattle.std.proofs.lemmas.List.Edits.{length-paste, take-paste, drop-paste, sets-eq}
use Rattle.text.specs.Lines.{LINE_END}
use Rattle.prints.specs.Print.{digit_of, hex_of, check_of, line_of}
use Rattle.prints.specs.Laws.Lengths.{length_hex, length_line}

-- what stands behind the pasted part is as it was
drop_behind : (d a : List ℕ) (at n m : ℕ) → length a ≡ n → at + n ≤ length d → drop (at + n + m) (paste d at a n) ≡ drop (at + n + m) d
drop_behind d a at n m p h =
    sym (drop-drop m (at + n) (paste d at a n))
    ∙ ap (λ (r : List ℕ). drop m r) (drop-paste d at a n (omega arith) (omega arith))
    ∙ drop-drop m (at + n) d

-- a, which is n long, and then b, which is m long, behind it
pub paste_append : (d a b : List ℕ) (at n m : ℕ) → length a ≡ n → length b ≡ m → at + (n + m) ≤ length d
    → paste (paste d at a n) (at + n) b m ≡ paste d at (a ++ b) (n + m)
paste_append d a b at n m p q h =
    let before : take (at + n) (paste d at a n) ≡ take at d ++ take n a = take-paste d at a n (omega arith) (omega arith) in
    let behind : drop (at + n + m) (paste d at a n) ≡ drop (at + n + m) d = drop_behind d a at n m p (omega arith) in
    let k : at + n + m ≡ at + (n + m) = omega arith in
    let l : length (a ++ b) ≤ n + m = omega (arith, length-append a b) in
    rw (before, behind, k, take_all n a (omega arith), take_all m b (omega arith), take_all (n + m) (a ++ b) l)
    (ap (λ (r : List ℕ). r ++ drop (at + (n + m)) d) (append_assoc (take at d) a b))

-- two stores, one behind the other
pub two_pasted : (d : List ℕ) (at x y : ℕ) → at + 2 ≤ length d → set (set d at x) (at + 1) y ≡ paste d at (x ∷ y ∷ []) 2
two_pasted d at x y h = rw add-one (sets-eq (x ∷ y ∷ []) d at h)

hex_append : (f g : List ℕ) → hex_of (f ++ g) ≡ hex_of f ++ hex_of g
hex_append [] g = refl
hex_append (b ∷ f) g = ap (λ (r : List ℕ). digit_of (b / 16) ∷ digit_of (b % 16) ∷ r) (hex_append f g)

-- one byte more of a frame
pub hex_more : (t d : List ℕ) (at : ℕ) (f : List ℕ) (i : ℕ) → t ≡ paste d at (hex_of (take i f)) (2 * i) → at + 2 * length f ≤ length d → i < length f
    → paste t (at + 2 * i) (hex_of (get_or f i 0 ∷ [])) 2 ≡ paste d at (hex_of (take (i + 1) f)) (2 * (i + 1))
hex_more t d at f i e h k =
    let b = hex_of (get_or f i 0 ∷ []) in
    let l : length (hex_of (take i f)) ≡ 2 * i = omega (arith, length_hex (take i f), length-take-le i f (omega arith)) in
    let o : take (i + 1) f ≡ take i f ++ (get_or f i 0 ∷ []) = rw add-one (take-suc f i 0 k) in
    let m : hex_of (take i f) ++ b ≡ hex_of (take (i + 1) f) = sym (ap hex_of o ∙ hex_append (take i f) (get_or f i 0 ∷ [])) in
    let n : 2 * i + 2 ≡ 2 * (i + 1) = omega arith in
    ap (λ (r : List ℕ). paste r (at + 2 * i) b 2) e
    ∙ paste_append d (hex_of (take i f)) b at (2 * i) 2 l refl (omega arith)
    ∙ ap (λ (r : List ℕ). paste d at r (2 * i + 2)) m
    ∙ ap (λ (x : ℕ). paste d at (hex_of (take (i + 1) f)) x) n

-- all bytes of a frame
pub hex_end : (t d : List ℕ) (at : ℕ) (f : List ℕ) (i : ℕ) → t ≡ paste d at (hex_of (take i f)) (2 * i) → i ≡ length f
    → t ≡ paste d at (hex_of f) (2 * length f)
hex_end t d at f i e k = e ∙ ap (λ (x : ℕ). paste d at (hex_of (take x f)) (2 * x)) k ∙ ap (λ (r : List ℕ). paste d at (hex_of r) (2 * length f)) (take-length f)

module _ (d f : List ℕ) (at : ℕ) (fits : at + (2 * length f + 3) ≤ length d) where
  -- a frame and its check
  check_pasted : paste (paste d at (hex_of f) (2 * length f)) (at + 2 * length f) (hex_of (check_of f ∷ [])) 2 ≡ paste d at (hex_of (f ++ (check_of f ∷ []))) (2 * length f + 2)
  check_pasted =
      paste_append d (hex_of f) (hex_of (check_of f ∷ [])) at (2 * length f) 2 (length_hex f) refl (omega arith)
      ∙ ap (λ (r : List ℕ). paste d at r (2 * length f + 2)) (sym (hex_append f (check_of f ∷ [])))

  -- and the line end
  pub line_pasted : set (paste (paste d at (hex_of f) (2 * length f)) (at + 2 * length f) (hex_of (check_of f ∷ [])) 2) (at + 2 * length f + 2) LINE_END
      ≡ paste d at (line_of f) (length (line_of f))
  line_pasted =
      let n = 2 * length f + 2 in
      let s = hex_of (f ++ (check_of f ∷ [])) in
      let l : length s ≡ n = omega (arith, length_hex (f ++ (check_of f ∷ [])), length-append f (check_of f ∷ [])) in
      let k : at + 2 * length f + 2 ≡ at + n = omega arith in
      let o : n + 1 ≡ length (line_of f) = omega (arith, length_line f) in
      ap₂ (λ (r : List ℕ) (x : ℕ). set r x LINE_END) check_pasted k
      ∙ sets-eq (LINE_END ∷ []) (paste d at s n) (at + n) (omega (arith, length-paste d at s n (omega arith) (omega arith)))
      ∙ paste_append d s (LINE_END ∷ []) at n 1 l refl (omega arith)
      ∙ ap (λ (x : ℕ). paste d at (line_of f) x) o
