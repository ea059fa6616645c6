-- Some, every, how many and the first of the numbers below n, as tests: a test that passes is the equation `t ≡ true`. Tests as a list. And what 'exactly one' says.
-- Assumes nothing.
use Rattle.std.specs.Prelude.{◌≡◌, Bool, true, false, cond, ◌&&◌, ◌||◌, List, [], ◌∷◌, ℕ, zero, suc, ◌+◌, ◌<◌, ltb, length, get_or}

-- some number below n passes
unfoldable pub any_below : ℕ → (ℕ → Bool) → Bool
any_below zero f = false
any_below (suc n) f = f n || any_below n f

-- every number below n passes
unfoldable pub all_below : ℕ → (ℕ → Bool) → Bool
all_below zero f = true
all_below (suc n) f = f n && all_below n f

-- 1 for a test that passes, else 0
abbrev pub one : Bool → ℕ
one true = 1
one false = 0

-- how many numbers below n pass
unfoldable pub count_below : ℕ → (ℕ → Bool) → ℕ
count_below zero f = 0
count_below (suc n) f = one (f n) + count_below n f

-- the first number below n that passes, and n where none does
unfoldable pub first_below : ℕ → (ℕ → Bool) → ℕ
first_below zero f = zero
first_below (suc n) f = let k = first_below n f in cond (ltb k n) k (cond (f n) n (suc n))

-- every test of a list passes
abbrev pub all : List Bool → Bool
all [] = true
all (t ∷ []) = t
all (t ∷ u ∷ ts) = t && all (u ∷ ts)

-- the tests of the numbers below n, in their order
abbrev pub tests_below : ℕ → (ℕ → Bool) → List Bool
tests_below zero f = []
tests_below (suc n) f = f zero ∷ tests_below n (λ i. f (suc i))

-- the number of the first test that fails, and their count where none does
abbrev pub first_failing : List Bool → ℕ
first_failing [] = 0
first_failing (t ∷ ts) = cond t (suc (first_failing ts)) 0

-- test k of a list fails, and all before it pass
pub record FailsFirst (ts : List Bool) (k : ℕ) : Type 0 where
  pub below : k < length ts
  pub fails : get_or ts k true ≡ false
  pub before : (j : ℕ) → j < k → get_or ts j true ≡ true

-- exactly one a has P
abbrev pub ExactlyOne : {A : Type 0} → (A → Type 0) → Type 0
ExactlyOne {A} P = (a : A) × P a × ((b : A) → P b → b ≡ a)
