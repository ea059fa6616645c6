-- Laws of some, every and how many of the numbers below n.
-- Assumes nothing.
use Rattle.std.specs.Prelude.{◌≡◌, refl, ◌⊎◌, Bool, true, false, ℕ, zero, suc, ◌+◌, ◌≤◌, ◌<◌, ltb}
use Rattle.std.proofs.Common.{sym, ap, ◌∙◌, inl, inr, ⊎_elim, eq-or-lt_of_le, le_of_suc-le-suc, add-one, arith, ltb-true, ltb-false}
use Rattle.std.proofs.lemmas.Bool.{false≢true}
use Rattle.theory.specs.Below.{any_below, all_below, one, count_below}
use Rattle.theory.proofs.Laws.Tests.{and_left, and_right, and_both, or_left, or_right, or_cases, test, not_both, is_false, bool_ext}

pub below_cases : {i n : ℕ} → i < suc n → (i ≡ n) ⊎ (i < n)
below_cases h = eq-or-lt_of_le (le_of_suc-le-suc h)

pub lt_or_le : (a b : ℕ) → (a < b) ⊎ (b ≤ a)
lt_or_le a b = ⊎_elim (λ (t : ltb a b ≡ true). inl (ltb-true a b t)) (λ (t : ltb a b ≡ false). inr (ltb-false a b t)) (test (ltb a b))

-- ---- some

pub any_intro : (n : ℕ) (f : ℕ → Bool) (i : ℕ) → i < n → f i ≡ true → any_below n f ≡ true
unfolding any_below
any_intro zero f i h p = absurd (omega arith)
any_intro (suc n) f i h p =
    ⊎_elim
    (λ (e : i ≡ n). or_left (any_below n f) (rw e at p))
    (λ (l : i < n). or_right (f n) (any_intro n f i l p))
    (below_cases h)

pub any_elim : (n : ℕ) (f : ℕ → Bool) → any_below n f ≡ true → (i : ℕ) × (i < n) × (f i ≡ true)
unfolding any_below
any_elim zero f h = absurd (false≢true h)
any_elim (suc n) f h =
    ⊎_elim
    (λ (p : f n ≡ true). (n, omega arith, p))
    (λ (q : any_below n f ≡ true). let r = any_elim n f q in (r.0, omega arith, r.2))
    (or_cases (f n) (any_below n f) h)

pub any_map : (n : ℕ) (f g : ℕ → Bool) → ((i : ℕ) → i < n → f i ≡ true → g i ≡ true) → any_below n f ≡ true → any_below n g ≡ true
any_map n f g m h = let r = any_elim n f h in any_intro n g r.0 r.1 (m r.0 r.1 r.2)

pub any_same : (n : ℕ) (f g : ℕ → Bool) → ((i : ℕ) → i < n → f i ≡ g i) → any_below n f ≡ any_below n g
any_same n f g h =
    bool_ext (any_below n f) (any_below n g)
    (any_map n f g (λ i l p. sym (h i l) ∙ p))
    (any_map n g f (λ i l p. h i l ∙ p))

-- ---- every

pub all_intro : (n : ℕ) (f : ℕ → Bool) → ((i : ℕ) → i < n → f i ≡ true) → all_below n f ≡ true
unfolding all_below
all_intro zero f h = refl
all_intro (suc n) f h = and_both (h n (omega arith)) (all_intro n f (λ i l. h i (omega arith)))

pub all_elim : (n : ℕ) (f : ℕ → Bool) → all_below n f ≡ true → (i : ℕ) → i < n → f i ≡ true
unfolding all_below
all_elim zero f h i l = absurd (omega arith)
all_elim (suc n) f h i l =
    ⊎_elim
    (λ (e : i ≡ n). rw e (and_left (f n) (all_below n f) h))
    (λ (k : i < n). all_elim n f (and_right (f n) (all_below n f) h) i k)
    (below_cases l)

pub all_map : (n : ℕ) (f g : ℕ → Bool) → ((i : ℕ) → i < n → f i ≡ true → g i ≡ true) → all_below n f ≡ true → all_below n g ≡ true
all_map n f g m h = all_intro n g (λ i l. m i l (all_elim n f h i l))

pub all_same : (n : ℕ) (f g : ℕ → Bool) → ((i : ℕ) → i < n → f i ≡ g i) → all_below n f ≡ all_below n g
all_same n f g h =
    bool_ext (all_below n f) (all_below n g)
    (all_map n f g (λ i l p. sym (h i l) ∙ p))
    (all_map n g f (λ i l p. h i l ∙ p))

-- a test of each from 0 on: none yet, one more, and the end, where i has come to n; or one that fails
pub all_none : (f : ℕ → Bool) → all_below 0 f ≡ true
unfolding all_below
all_none f = refl

pub all_next : (n : ℕ) (f : ℕ → Bool) → all_below n f ≡ true → f n ≡ true → all_below (n + 1) f ≡ true
unfolding all_below
all_next n f h p = rw (add-one, p) h

pub all_end : (n i : ℕ) (f : ℕ → Bool) → i ≤ n → n ≤ i → all_below i f ≡ true → all_below n f ≡ true
all_end n i f h k p = let e : n ≡ i = omega arith in rw e p

pub all_fails : (n : ℕ) (f : ℕ → Bool) (i : ℕ) → i < n → f i ≡ false → all_below n f ≡ false
all_fails n f i l p = is_false (all_below n f) (λ h. not_both (all_elim n f h i l) p)

-- it holds of every number, or there is one of which it fails
pub all_or : (n : ℕ) (f : ℕ → Bool) → ((i : ℕ) → i < n → f i ≡ true) ⊎ ((i : ℕ) × (i < n) × (f i ≡ false))
all_or zero f = inl (λ i l. absurd (omega arith))
all_or (suc n) f =
    ⊎_elim
    (λ (p : f n ≡ true).
    ⊎_elim
    (λ (h : (i : ℕ) → i < n → f i ≡ true). inl (λ i l. ⊎_elim (λ (e : i ≡ n). rw e p) (λ (k : i < n). h i k) (below_cases l)))
    (λ (r : (i : ℕ) × (i < n) × (f i ≡ false)). inr (r.0, omega arith, r.2))
    (all_or n f))
    (λ (q : f n ≡ false). inr (n, omega arith, q))
    (test (f n))

-- ---- how many

one_le : (b : Bool) → one b ≤ 1
one_le true = omega arith
one_le false = omega arith

one_mono : (a b : Bool) → (a ≡ true → b ≡ true) → one a ≤ one b
one_mono true b h = rw (h refl) (omega arith)
one_mono false b h = omega arith

pub count_le : (n : ℕ) (f : ℕ → Bool) → count_below n f ≤ n
unfolding count_below
count_le zero f = omega arith
count_le (suc n) f = omega (arith, one_le (f n), count_le n f)

pub count_mono : (n : ℕ) (f g : ℕ → Bool) → ((i : ℕ) → i < n → f i ≡ true → g i ≡ true) → count_below n f ≤ count_below n g
unfolding count_below
count_mono zero f g h = omega arith
count_mono (suc n) f g h = omega (arith, one_mono (f n) (g n) (h n (omega arith)), count_mono n f g (λ i l. h i (omega arith)))

-- one more: g passes where f does, and at i where f does not
pub count_strict : (n : ℕ) (f g : ℕ → Bool) → ((i : ℕ) → i < n → f i ≡ true → g i ≡ true) → (i : ℕ) → i < n → f i ≡ false → g i ≡ true → count_below n f < count_below n g
unfolding count_below
count_strict zero f g h i l p q = absurd (omega arith)
count_strict (suc n) f g h i l p q =
    ⊎_elim
    (λ (e : i ≡ n).
    let p' : one (f n) ≡ 0 = ap one (rw e at p) in
    let q' : one (g n) ≡ 1 = ap one (rw e at q) in
    omega (arith, count_mono n f g (λ j k. h j (omega arith))))
    (λ (k : i < n). omega (arith, one_mono (f n) (g n) (h n (omega arith)), count_strict n f g (λ j m. h j (omega arith)) i k p q))
    (below_cases l)

-- a count from 0 on: none yet, one more, and the end, where i has come to n
pub count_none : (f : ℕ → Bool) → 0 ≡ count_below 0 f
unfolding count_below
count_none f = refl

pub count_next : (i n m : ℕ) (f : ℕ → Bool) → m ≡ one (f i) → n ≡ count_below i f → n + m ≡ count_below (i + 1) f
unfolding count_below
count_next i n m f p q = rw (add-one, p, q) (omega arith)

pub count_end : (n i m : ℕ) (f : ℕ → Bool) → i ≤ n → n ≤ i → m ≡ count_below i f → m ≡ count_below n f
count_end n i m f l k p = let e : i ≡ n = omega arith in rw e at p
