-- Laws of the list of the numbers below n, which a chain over a range goes through: whether every one of them passes, and how many do.
-- Assumes nothing.
use Rattle.std.specs.Prelude.{◌≡◌, Bool, true, false, cond, [], ◌∷◌, ℕ, zero, suc, ◌+◌, ◌≤◌, ◌<◌}
use Rattle.std.specs.List.{list_all, count_by, range_with_len}
use Rattle.std.proofs.Math.Path.{refl}
use Rattle.std.proofs.Common.{ap, ⊎_elim, eq-or-lt_of_le, add-one, arith}
use Rattle.std.proofs.lemmas.List.Sums.{sum_by-append}
use Rattle.theory.specs.Below.{all_below, one, count_below}
use Rattle.theory.proofs.Laws.Tests.{and_left, and_right, and_both, bool_ext}
use Rattle.theory.proofs.Laws.Below.{all_intro, all_elim}

-- every one of n numbers from a on
range_every : (f : ℕ → Bool) (n a : ℕ) → ((i : ℕ) → a ≤ i → i < a + n → f i ≡ true) → list_all f (range_with_len a n) ≡ true
range_every f zero a h = refl
range_every f (suc n) a h = and_both (h a (omega arith) (omega arith)) (range_every f n (a + 1) (λ i k l. h i (omega arith) (omega arith)))

range_each : (f : ℕ → Bool) (n a : ℕ) → list_all f (range_with_len a n) ≡ true → (i : ℕ) → a ≤ i → i < a + n → f i ≡ true
range_each f zero a h i k l = absurd (omega arith)
range_each f (suc n) a h i k l =
    ⊎_elim
    (λ (e : a ≡ i). rw (← e) (and_left (f a) (list_all f (range_with_len (a + 1) n)) h))
    (λ (m : a < i). range_each f n (a + 1) (and_right (f a) (list_all f (range_with_len (a + 1) n)) h) i (omega arith) (omega arith))
    (eq-or-lt_of_le k)

-- every number below n
pub all_in_range : (n : ℕ) (f : ℕ → Bool) → list_all f (range_with_len 0 n) ≡ all_below n f
all_in_range n f =
    bool_ext (list_all f (range_with_len 0 n)) (all_below n f)
    (λ h. all_intro n f (λ i l. range_each f n 0 h i (omega arith) (omega arith)))
    (λ h. range_every f n 0 (λ i k l. all_elim n f h i (omega arith)))

-- how many of n numbers from a on, and of those below a
one_cond : (b : Bool) → cond b 1 0 ≡ one b
one_cond true = refl
one_cond false = refl

range_count : (f : ℕ → Bool) (n a : ℕ) → count_by f (range_with_len a n) + count_below a f ≡ count_below (a + n) f
unfolding count_below
range_count f zero a = let e : a + zero ≡ a = omega arith in rw e (omega arith)
range_count f (suc n) a =
    let one_more : count_by f (range_with_len a (suc n)) ≡ 0 + cond (f a) 1 0 + count_by f (range_with_len (a + 1) n)
    = sum_by-append (λ x. cond (f x) 1 0) (a ∷ []) (range_with_len (a + 1) n) in
    let below : count_below (a + 1) f ≡ one (f a) + count_below a f = rw add-one refl in
    let e : a + suc n ≡ a + 1 + n = omega arith in
    rw e (omega (arith, one_more, below, one_cond (f a), range_count f n (a + 1)))

-- how many of the numbers below n
pub count_in_range : (n : ℕ) (f : ℕ → Bool) → count_by f (range_with_len 0 n) ≡ count_below n f
unfolding count_below
count_in_range n f =
    let all : count_by f (range_with_len 0 n) + 0 ≡ count_below (0 + n) f = range_count f n 0 in
    let e : 0 + n ≡ n = omega arith in
    omega (arith, all, ap (λ (k : ℕ). count_below k f) e)
