-- Laws of the first of the numbers below n that passes: when it is which, and what it says. A search from 0 on has `first_below i f ≡ i` for its invariant.
-- Assumes nothing.
use Rattle.std.specs.Prelude.{◌≡◌, ◌⊎◌, Bool, true, false, ℕ, zero, suc, ◌+◌, ◌≤◌, ◌<◌}
use Rattle.std.proofs.Math.Path.{refl}
use Rattle.std.proofs.Common.{sym, inl, inr, ⊎_elim, add-one, arith}
use borrow.Author.Tests.{lt-ltb, le-ltb}
use Rattle.theory.specs.Below.{any_below, first_below}
use Rattle.theory.proofs.Laws.Tests.{test, not_both}
use Rattle.theory.proofs.Laws.Below.{below_cases, any_elim}

-- none below n passes
abbrev pub NoneBelow : ℕ → (ℕ → Bool) → Type 0
NoneBelow n f = (j : ℕ) → j < n → f j ≡ false

-- there is none
pub first_none : (n : ℕ) (f : ℕ → Bool) → NoneBelow n f → first_below n f ≡ n
unfolding first_below
first_none zero f h = refl
first_none (suc n) f h =
    let e : first_below n f ≡ n = first_none n f (λ j l. h j (omega arith)) in
    rw (e, le-ltb n n (omega arith), h n (omega arith)) refl

-- it is k: k passes and none before it does
pub first_is : (n : ℕ) (f : ℕ → Bool) (k : ℕ) → k < n → f k ≡ true → NoneBelow k f → first_below n f ≡ k
unfolding first_below
first_is zero f k l p h = absurd (omega arith)
first_is (suc n) f k l p h =
    ⊎_elim
    (λ (e : k ≡ n).
    let g : first_below n f ≡ n = first_none n f (λ j m. h j (omega arith)) in
    rw (g, le-ltb n n (omega arith), rw e at p) (sym e))
    (λ (m : k < n).
    let g : first_below n f ≡ k = first_is n f k m p h in
    rw (g, lt-ltb k n m) refl)
    (below_cases l)

-- ---- what it says

-- k is the first below n that passes
pub record FirstAt (n : ℕ) (f : ℕ → Bool) (k : ℕ) : Type 0 where
  pub below : k < n
  pub passes : f k ≡ true
  pub first : NoneBelow k f

first_or : (n : ℕ) (f : ℕ → Bool) → NoneBelow n f ⊎ ((k : ℕ) × FirstAt n f k)
first_or zero f = inl (λ i l. absurd (omega arith))
first_or (suc n) f =
    ⊎_elim
    (λ (h : NoneBelow n f).
    ⊎_elim
    (λ (p : f n ≡ true). inr (n, record { below = omega arith; passes = p; first = h }))
    (λ (q : f n ≡ false). inl (λ i l. ⊎_elim (λ (e : i ≡ n). rw e q) (λ (k : i < n). h i k) (below_cases l)))
    (test (f n)))
    (λ (r : (k : ℕ) × FirstAt n f k). inr (r.0, record { below = omega (arith, r.1.below); passes = r.1.passes; first = r.1.first }))
    (first_or n f)

-- THE LAW: it is n and none passes, or it is the first that does
pub first_says : (n : ℕ) (f : ℕ → Bool) → ((first_below n f ≡ n) × NoneBelow n f) ⊎ FirstAt n f (first_below n f)
first_says n f =
    ⊎_elim
    (λ (h : NoneBelow n f). inl (first_none n f h, h))
    (λ (r : (k : ℕ) × FirstAt n f k). inr (rw (first_is n f r.0 r.1.below r.1.passes r.1.first) r.1))
    (first_or n f)

pub first_below_lem : (n : ℕ) (f : ℕ → Bool) → first_below n f < n → FirstAt n f (first_below n f)
first_below_lem n f l =
    ⊎_elim
    (λ (h : (first_below n f ≡ n) × NoneBelow n f). absurd (omega (arith, h.0)))
    (λ (r : FirstAt n f (first_below n f)). r)
    (first_says n f)

pub first_past : (n : ℕ) (f : ℕ → Bool) → n ≤ first_below n f → NoneBelow n f
first_past n f l =
    ⊎_elim
    (λ (h : (first_below n f ≡ n) × NoneBelow n f). h.1)
    (λ (r : FirstAt n f (first_below n f)). absurd (omega (arith, r.below)))
    (first_says n f)

pub first_some : (n : ℕ) (f : ℕ → Bool) → any_below n f ≡ true → FirstAt n f (first_below n f)
first_some n f h =
    ⊎_elim
    (λ (x : (first_below n f ≡ n) × NoneBelow n f). let r = any_elim n f h in not_both r.2 (x.1 r.0 r.1))
    (λ (r : FirstAt n f (first_below n f)). r)
    (first_says n f)

-- ---- a search from 0 on: nothing yet, one more that fails, the one that passes, and the end, where i has come to n

pub search_none : (f : ℕ → Bool) → first_below 0 f ≡ 0
unfolding first_below
search_none f = refl

module _ (i : ℕ) (f : ℕ → Bool) (e : first_below i f ≡ i) where
  pub search_next : f i ≡ false → first_below (i + 1) f ≡ i + 1
  unfolding first_below
  search_next q = rw (add-one i, e, le-ltb i i (omega arith), q) refl

  pub search_found : (n : ℕ) → i < n → f i ≡ true → i ≡ first_below n f
  search_found n l p = sym (first_is n f i l p (first_past i f (omega (arith, e))))

pub search_end : (n i : ℕ) (f : ℕ → Bool) → i ≤ n → n ≤ i → first_below i f ≡ i → n ≡ first_below n f
search_end n i f l k e = let q : i ≡ n = omega arith in sym (rw q at e)

-- tests that are the same below n have the same first
pub first_same : (n : ℕ) (f g : ℕ → Bool) → ((k : ℕ) → k < n → f k ≡ g k) → first_below n f ≡ first_below n g
unfolding first_below
first_same zero f g h = refl
first_same (suc n) f g h = rw (first_same n f g (λ k l. h k (omega arith)), h n (omega arith)) refl
