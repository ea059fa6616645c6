-- Laws of tests as a list: when all pass, and which is the first that fails.
-- Assumes nothing.
use Rattle.std.specs.Prelude.{◌≡◌, refl, Bool, true, false, ◌&&◌, List, [], ◌∷◌, ◌++◌, ℕ, zero, suc, ◌+◌, ◌<◌, eqb, length, get_or}
use Rattle.std.proofs.Common.{sym, ap, ◌∙◌, zero-add, arith}
use Rattle.std.proofs.Math.Bool.{and-true, and_assoc, and_comm}
use Rattle.std.proofs.Math.Dec.{eqb-zero-suc, eqb-suc-suc}
use Rattle.theory.specs.Below.{all_below, all, tests_below, first_failing, FailsFirst}
use Rattle.theory.proofs.Laws.Tests.{not_both}

pub all_cons : (t : Bool) (ts : List Bool) → all (t ∷ ts) ≡ (t && all ts)
all_cons t [] = sym (and-true t)
all_cons t (u ∷ ts) = refl

-- of the numbers below one more, 0 and those after it
all_front : (n : ℕ) (f : ℕ → Bool) → (f 0 && all_below n (λ i. f (suc i))) ≡ all_below (suc n) f
unfolding all_below
all_front zero f = refl
all_front (suc n) f =
    let a : Bool = f 0 in
    let b : Bool = f (suc n) in
    let c : Bool = all_below n (λ i. f (suc i)) in
    sym (and_assoc a b c) ∙ ap (λ (x : Bool). x && c) (and_comm a b) ∙ and_assoc b a c ∙ ap (λ (x : Bool). b && x) (all_front n f)

-- the tests of the numbers below n, and others after them
pub all_tests : (n : ℕ) (f : ℕ → Bool) (ts : List Bool) → all (tests_below n f ++ ts) ≡ (all_below n f && all ts)
unfolding all_below
all_tests zero f ts = refl
all_tests (suc n) f ts =
    let g : ℕ → Bool = λ i. f (suc i) in
    all_cons (f 0) (tests_below n g ++ ts)
    ∙ ap (λ (x : Bool). f 0 && x) (all_tests n g ts)
    ∙ sym (and_assoc (f 0) (all_below n g) (all ts))
    ∙ ap (λ (x : Bool). x && all ts) (all_front n f)

-- ---- the first that fails

-- none fails exactly where the first that does is past the last
pub all_first : (ts : List Bool) → all ts ≡ eqb (first_failing ts) (length ts)
all_first [] = refl
all_first (true ∷ ts) = all_cons true ts ∙ all_first ts ∙ sym (eqb-suc-suc (first_failing ts) (length ts))
all_first (false ∷ ts) = all_cons false ts ∙ sym (eqb-zero-suc (length ts))

-- THE LAW: where not all pass it is the first that fails
pub first_failing_lem : (ts : List Bool) → all ts ≡ false → FailsFirst ts (first_failing ts)
first_failing_lem [] h = not_both refl h
first_failing_lem (true ∷ ts) h =
    let r = first_failing_lem ts (sym (all_cons true ts) ∙ h) in
    record { below = omega (arith, r.below); fails = r.fails; before = before r.before }
  where
    before : ((j : ℕ) → j < first_failing ts → get_or ts j true ≡ true) → (j : ℕ) → j < suc (first_failing ts) → get_or (true ∷ ts) j true ≡ true
    before b zero l = refl
    before b (suc j) l = b j (omega arith)
first_failing_lem (false ∷ ts) h = record { below = omega arith; fails = refl; before = λ j l. absurd (omega arith) }

-- after the tests of the numbers below n, where all of these pass
pub tests_pass : (n : ℕ) (f : ℕ → Bool) (ts : List Bool) → ((j : ℕ) → j < n → f j ≡ true) → first_failing (tests_below n f ++ ts) ≡ n + first_failing ts
tests_pass zero f ts h = sym (zero-add (first_failing ts))
tests_pass (suc n) f ts h = rw (h 0 (omega arith)) (omega (arith, tests_pass n (λ i. f (suc i)) ts (λ j l. h (suc j) (omega arith))))

-- and where k is the first of them that fails
pub tests_fail : (n : ℕ) (f : ℕ → Bool) (ts : List Bool) (k : ℕ) → k < n → f k ≡ false → ((j : ℕ) → j < k → f j ≡ true) → first_failing (tests_below n f ++ ts) ≡ k
tests_fail zero f ts k l e h = absurd (omega arith)
tests_fail (suc n) f ts zero l e h = rw e refl
tests_fail (suc n) f ts (suc k) l e h =
    rw (h 0 (omega arith)) (ap suc (tests_fail n (λ i. f (suc i)) ts k (omega arith) e (λ j m. h (suc j) (omega arith))))

pub length_tests : (n : ℕ) (f : ℕ → Bool) (ts : List Bool) → length (tests_below n f ++ ts) ≡ n + length ts
length_tests zero f ts = sym (zero-add (length ts))
length_tests (suc n) f ts = omega (arith, length_tests n (λ i. f (suc i)) ts)
