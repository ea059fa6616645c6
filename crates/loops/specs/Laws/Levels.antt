-- Laws of the list of levels: what makes two counts the same, the list as it is filled, and the counts as row after row joins them.
-- Assumes nothing.
use Rattle.std.specs.Prelude.{◌≡◌, refl, Bool, List, [], ◌∷◌, ℕ, zero, suc, ◌+◌, ◌≤◌, ◌<◌, length, get_or, set, replicate}
use Rattle.std.proofs.Common.{sym, ap, ap₂, ◌∙◌, ⊎_elim, arith, length-set, get_or-set_same, get_or-set_other, ext_get_or}
use Rattle.std.proofs.Math.Logic.{by_cases}
use Rattle.std.proofs.Math.Decide.{dec_lt}
use Rattle.std.proofs.lemmas.List.{length-replicate, get_or-replicate}
use Rattle.std.proofs.Math.ListN.{get_or-eq_default}
use Rattle.theory.specs.Numbers.{EVENTS}
use Rattle.theory.specs.Below.{one, count_below}
use Rattle.theory.proofs.Laws.Below.{below_cases, count_le, count_none, count_next}
use Rattle.reach_row.specs.Row.{Row, reaches}
use Rattle.reach_rows.specs.Rows.{edges_of}
use Rattle.reach_rows.specs.Laws.Rows.{edge_row}
use Rattle.loops.specs.Tested.{tabulate}

-- tests that are the same below n have the same count
pub count_same : (n : ℕ) (f g : ℕ → Bool) → ((k : ℕ) → k < n → f k ≡ g k) → count_below n f ≡ count_below n g
unfolding count_below
count_same zero f g h = refl
count_same (suc n) f g h = rw (count_same n f g (λ k l. h k (omega arith)), h n (omega arith)) refl

-- ---- the list of f 0 to f (n − 1)

pub length_tabulate : (n : ℕ) (f : ℕ → ℕ) → length (tabulate n f) ≡ n
unfolding tabulate
length_tabulate zero f = refl
length_tabulate (suc n) f = ap suc (length_tabulate n (λ i. f (suc i)))

pub get_d_tabulate : (n : ℕ) (f : ℕ → ℕ) (i : ℕ) → i < n → get_or (tabulate n f) i 0 ≡ f i
unfolding tabulate
get_d_tabulate zero f i l = absurd (omega arith)
get_d_tabulate (suc n) f zero l = refl
get_d_tabulate (suc n) f (suc i) l = get_d_tabulate n (λ i. f (suc i)) i (omega arith)

pub tabulate_same : (n : ℕ) (f g : ℕ → ℕ) → ((i : ℕ) → i < n → f i ≡ g i) → tabulate n f ≡ tabulate n g
unfolding tabulate
tabulate_same zero f g h = refl
tabulate_same (suc n) f g h = ap₂ ◌∷◌ (h zero (omega arith)) (tabulate_same n (λ i. f (suc i)) (λ i. g (suc i)) (λ i l. h (suc i) (omega arith)))

-- a list of n numbers whose first i are those of f, and the others those that were given
pub record Filled (n : ℕ) (given : List ℕ) (f : ℕ → ℕ) (i : ℕ) (l : List ℕ) : Type 0 where
  pub size : length l ≡ n
  pub says : (k : ℕ) → k < i → get_or l k 0 ≡ f k
  pub left : (k : ℕ) → i ≤ k → get_or l k 0 ≡ get_or given k 0

module _ (n : ℕ) (given : List ℕ) (f : ℕ → ℕ) where
  pub filled_none : length given ≡ n → Filled n given f 0 given
  filled_none e = record { size = e; says = λ k m. absurd (omega arith); left = λ k _. refl }

  pub filled_next : (i j v : ℕ) (l : List ℕ) → j ≡ i → i < n → v ≡ f i → Filled n given f i l → Filled n given f (i + 1) (set l j v)
  filled_next i j v l e m p h =
      rw e
      (record {
        size = length-set l i v ∙ h.size;
        says = λ k b.
            let b' : k < suc i = omega arith in
            ⊎_elim
            (λ (q : k ≡ i). rw (q, get_or-set_same l i v 0 (omega (arith, h.size))) p)
            (λ (q : k < i). get_or-set_other l i k v 0 (λ r. omega arith) ∙ h.says k q)
            (below_cases b');
        left = λ k b. get_or-set_other l i k v 0 (λ r. omega arith) ∙ h.left k (omega arith);
      })

  pub filled_end : (i : ℕ) (l : List ℕ) → n ≤ i → Filled n given f i l → l ≡ tabulate n f
  filled_end i l m h =
      ext_get_or 0 l (tabulate n f) (h.size ∙ sym (length_tabulate n f))
      (λ k b. h.says k (omega (arith, h.size)) ∙ sym (get_d_tabulate n f k (omega (arith, h.size))))

-- ---- the counts of columns, row after row: of no row yet, of one more, and of all

module _ (rows : List Row) where
  -- how many events below x reach e
  abbrev pub count_of : ℕ → ℕ → ℕ
  count_of x e = count_below x (λ a. edges_of rows a e)

  pub counts_none : replicate EVENTS 0 ≡ tabulate EVENTS (count_of 0)
  counts_none =
      let s : length (replicate {A = ℕ} EVENTS 0) ≡ EVENTS = length-replicate {A = ℕ} EVENTS 0 in
      ext_get_or 0 (replicate EVENTS 0) (tabulate EVENTS (count_of 0)) (s ∙ sym (length_tabulate EVENTS (count_of 0)))
      (λ k b.
      let m : k < EVENTS = omega (arith, s) in
      get_or-replicate EVENTS k 0 0 m ∙ count_none (λ a. edges_of rows a k) ∙ sym (get_d_tabulate EVENTS (count_of 0) k m))

  module _ (x : ℕ) (l : List ℕ) (h : l ≡ tabulate EVENTS (count_of x)) where
    -- no count is above the number of rows
    pub counts_most : (e : ℕ) → get_or l e 0 ≤ x
    counts_most e =
        rw h
        (by_cases (dec_lt e EVENTS)
        (λ (m : e < EVENTS). omega (arith, get_d_tabulate EVENTS (count_of x) e m, count_le x (λ a. edges_of rows a e)))
        (λ (m : ¬ (e < EVENTS)).
        let z : get_or (tabulate EVENTS (count_of x)) e 0 ≡ 0 = get_or-eq_default (tabulate EVENTS (count_of x)) 0 (omega (arith, length_tabulate EVENTS (count_of x))) in
        omega (arith, z)))

    pub counts_next : x < EVENTS → tabulate EVENTS (λ e. get_or l e 0 + one (reaches (get_or rows x []) e)) ≡ tabulate EVENTS (count_of (x + 1))
    counts_next m =
        tabulate_same EVENTS (λ e. get_or l e 0 + one (reaches (get_or rows x []) e)) (count_of (x + 1))
        (λ e b. count_next x (get_or l e 0) (one (reaches (get_or rows x []) e)) (λ a. edges_of rows a e) (ap one (edge_row rows x e m)) (rw h (get_d_tabulate EVENTS (count_of x) e b)))

    pub counts_end : x ≤ EVENTS → EVENTS ≤ x → l ≡ tabulate EVENTS (count_of EVENTS)
    counts_end m n = let e : x ≡ EVENTS = omega arith in rw e at h
