-- Laws of loops that write into buffers: none yet, one more, and the end; what the buffer then holds.
-- Assumes nothing.
use Rattle.std.specs.Prelude.{◌≡◌, refl, List, ℕ, zero, suc, ◌+◌, ◌≤◌, ◌<◌, length, get_or, set}
use Rattle.std.proofs.Common.{◌∙◌, add-one, arith, length-set, get_or-set_same, get_or-set_other, ⊎_elim}
use Rattle.theory.proofs.Laws.Below.{below_cases}
use Rattle.masks.specs.Joins.{Entry, joined_where, joins, writes}

-- ---- entries that join

pub joins_none : (l : List ℕ) (entry : ℕ → Entry) → l ≡ joins l 0 entry
unfolding joins
joins_none l entry = refl

pub joins_next : (l₀ l l' : List ℕ) (n : ℕ) (entry : ℕ → Entry) (x : Entry) → l ≡ joins l₀ n entry → x ≡ entry n → l' ≡ joined_where l x → l' ≡ joins l₀ (n + 1) entry
unfolding joins
joins_next l₀ l l' n entry x h e w = rw add-one (rw (h, e) at w)

pub joins_end : (l₀ l : List ℕ) (n i : ℕ) (entry : ℕ → Entry) → i ≤ n → n ≤ i → l ≡ joins l₀ i entry → l ≡ joins l₀ n entry
joins_end l₀ l n i entry h k e = let z : i ≡ n = omega arith in rw z at e

-- ---- numbers that are written

pub writes_none : (l : List ℕ) (at : ℕ) (v : ℕ → ℕ) → l ≡ writes l at 0 v
unfolding writes
writes_none l at v = refl

pub writes_next : (l₀ l l' : List ℕ) (at n i x : ℕ) (v : ℕ → ℕ) → l ≡ writes l₀ at n v → i ≡ at + n → x ≡ v n → l' ≡ set l i x → l' ≡ writes l₀ at (n + 1) v
unfolding writes
writes_next l₀ l l' at n i x v h k e w = rw add-one (rw (h, k, e) at w)

pub writes_end : (l₀ l : List ℕ) (at n i : ℕ) (v : ℕ → ℕ) → i ≤ n → n ≤ i → l ≡ writes l₀ at i v → l ≡ writes l₀ at n v
writes_end l₀ l at n i v h k e = let z : i ≡ n = omega arith in rw z at e

pub writes_size : (l : List ℕ) (at n : ℕ) (v : ℕ → ℕ) → length (writes l at n v) ≡ length l
unfolding writes
writes_size l at zero v = refl
writes_size l at (suc n) v = length-set (writes l at n v) (at + n) (v n) ∙ writes_size l at n v

-- number `at + j` is v j
pub writes_in : (l : List ℕ) (at n : ℕ) (v : ℕ → ℕ) (j : ℕ) → j < n → at + n ≤ length l → get_or (writes l at n v) (at + j) 0 ≡ v j
unfolding writes
writes_in l at zero v j h k = absurd (omega arith)
writes_in l at (suc n) v j h k =
    ⊎_elim
    (λ (e : j ≡ n). rw e (get_or-set_same (writes l at n v) (at + n) (v n) 0 (omega (arith, writes_size l at n v))))
    (λ (m : j < n). get_or-set_other (writes l at n v) (at + n) (at + j) (v n) 0 (λ e. omega arith) ∙ writes_in l at n v j m (omega arith))
    (below_cases h)

-- every other number stays
pub writes_out : (l : List ℕ) (at n : ℕ) (v : ℕ → ℕ) (i : ℕ) → ((j : ℕ) → j < n → ¬ (i ≡ at + j)) → get_or (writes l at n v) i 0 ≡ get_or l i 0
unfolding writes
writes_out l at zero v i h = refl
writes_out l at (suc n) v i h =
    get_or-set_other (writes l at n v) (at + n) i (v n) 0 (h n (omega arith)) ∙ writes_out l at n v i (λ j m. h j (omega arith))
