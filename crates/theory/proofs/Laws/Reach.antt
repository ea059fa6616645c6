-- Reach in a graph whose edges are a test, worked out as the loop test does: let paths go through one event more in each phase.
-- After phase N the entries are exactly the pairs that `Reaches` joins, where every edge ends below N.
-- Assumes nothing.
use Rattle.std.specs.Prelude.{◌≡◌, refl, ◌⊎◌, ◌↔◌, true, ◌&&◌, ◌||◌}
use Rattle.std.proofs.Math.Logic.{inl, inr, ⊎_elim}
use Prim.Native.Nat.{ℕ, zero, suc, ◌+◌, ◌<◌}
use Rattle.std.proofs.Common.{add-one, arith, eqb-true, eq-eqb}
use Rattle.std.proofs.Math.Dec.{eqb}
use Rattle.theory.specs.Graph.{Edges, Reaches, here, onward}
use Rattle.theory.specs.LoopTest.{through}
use Rattle.theory.proofs.Laws.Tests.{and_left, and_right, and_both, or_left, or_right, or_cases, bool_ext}
use Rattle.theory.proofs.Laws.Below.{below_cases}

pub reaches_append : {E : Edges} {a m b : ℕ} → Reaches E a m → Reaches E m b → Reaches E a b
reaches_append here v = v
reaches_append (onward e w) v = onward e (reaches_append w v)

pub reaches_edge : {E : Edges} {a b : ℕ} → E a b ≡ true → Reaches E a b
reaches_edge e = onward e here

module _ (E : Edges) where
  abbrev w : ℕ → Edges
  w k = through E k

  through_cases : (k a b : ℕ) → w (suc k) a b ≡ true → (w k a b ≡ true) ⊎ ((w k a k ≡ true) × (w k k b ≡ true))
  unfolding through
  through_cases k a b h =
      ⊎_elim
      (λ (d : w k a b ≡ true). inl d)
      (λ (v : (w k a k && w k k b) ≡ true). inr (and_left (w k a k) (w k k b) v, and_right (w k a k) (w k k b) v))
      (or_cases (w k a b) (w k a k && w k k b) h)

  through_direct : (k a b : ℕ) → w k a b ≡ true → w (suc k) a b ≡ true
  unfolding through
  through_direct k a b h = or_left (w k a k && w k k b) h

  through_via : (k a b : ℕ) → w k a k ≡ true → w k k b ≡ true → w (suc k) a b ≡ true
  unfolding through
  through_via k a b p q = or_right (w k a b) (and_both p q)

  -- ---- each entry is a path

  pub through_sound : (k a b : ℕ) → w k a b ≡ true → Reaches E a b
  unfolding through
  through_sound zero a b h =
      ⊎_elim (λ (e : eqb a b ≡ true). rw (eqb-true a b e) here) (λ (g : E a b ≡ true). reaches_edge g) (or_cases (eqb a b) (E a b) h)
  through_sound (suc k) a b h =
      ⊎_elim
      (λ (d : w k a b ≡ true). through_sound k a b d)
      (λ (v : (w k a k ≡ true) × (w k k b ≡ true)). reaches_append (through_sound k a k v.0) (through_sound k k b v.1))
      (through_cases k a b h)

  -- ---- each path is an entry

  pub through_self : (k a : ℕ) → w k a a ≡ true
  unfolding through
  through_self zero a = or_left (E a a) (eq-eqb a a refl)
  through_self (suc k) a = through_direct k a a (through_self k a)

  through_edge : (k a b : ℕ) → E a b ≡ true → w k a b ≡ true
  unfolding through
  through_edge zero a b e = or_right (eqb a b) e
  through_edge (suc k) a b e = through_direct k a b (through_edge k a b e)

  -- phase k changes neither column k nor row k: it can be done in place
  column_kept : (k a : ℕ) → w (suc k) a k ≡ w k a k
  column_kept k a =
      bool_ext (w (suc k) a k) (w k a k)
      (λ h. ⊎_elim (λ (d : w k a k ≡ true). d) (λ (v : (w k a k ≡ true) × (w k k k ≡ true)). v.0) (through_cases k a k h))
      (through_direct k a k)

  row_kept : (k b : ℕ) → w (suc k) k b ≡ w k k b
  row_kept k b =
      bool_ext (w (suc k) k b) (w k k b)
      (λ h. ⊎_elim (λ (d : w k k b ≡ true). d) (λ (v : (w k k k ≡ true) × (w k k b ≡ true)). v.1) (through_cases k k b h))
      (through_direct k k b)

  -- after k phases two entries that meet below k make an entry
  through_compose : (k a m b : ℕ) → m < k → w k a m ≡ true → w k m b ≡ true → w k a b ≡ true
  through_compose zero a m b l p q = absurd (omega arith)
  through_compose (suc k) a m b l p q =
      ⊎_elim
      (λ (e : m ≡ k).
      through_via k a b
      (rw (← column_kept k a) (rw e at p))
      (rw (← row_kept k b) (rw e at q)))
      (λ (lk : m < k).
      ⊎_elim
      (λ (p₁ : w k a m ≡ true).
      ⊎_elim
      (λ (q₁ : w k m b ≡ true). through_direct k a b (through_compose k a m b lk p₁ q₁))
      (λ (q₂ : (w k m k ≡ true) × (w k k b ≡ true)). through_via k a b (through_compose k a m k lk p₁ q₂.0) q₂.1)
      (through_cases k m b q))
      (λ (p₂ : (w k a k ≡ true) × (w k k m ≡ true)).
      ⊎_elim
      (λ (q₁ : w k m b ≡ true). through_via k a b p₂.0 (through_compose k k m b lk p₂.1 q₁))
      (λ (q₂ : (w k m k ≡ true) × (w k k b ≡ true)). through_via k a b p₂.0 q₂.1)
      (through_cases k m b q))
      (through_cases k a m p))
      (below_cases l)

  pub through_complete : (N : ℕ) → ((a b : ℕ) → E a b ≡ true → b < N) → {a b : ℕ} → Reaches E a b → w N a b ≡ true
  through_complete N f (here {a = a}) = through_self N a
  through_complete N f (onward {a = a} {m = m} {b = b} e v) =
      through_compose N a m b (f a m e) (through_edge N a m e) (through_complete N f v)

  -- THE THEOREM: reach is exact
  pub through_exact : (N : ℕ) → ((a b : ℕ) → E a b ≡ true → b < N) → (a b : ℕ) → (w N a b ≡ true) ↔ Reaches E a b
  through_exact N f a b = (through_sound N a b, λ r. through_complete N f r)

-- the phases as a program counts them
pub through_start : (E : Edges) (a b : ℕ) → through E 0 a b ≡ (eqb a b || E a b)
unfolding through
through_start E a b = refl

pub through_next : (E : Edges) (k a b : ℕ) → through E (k + 1) a b ≡ (through E k a b || (through E k a k && through E k k b))
unfolding through
through_next E k a b = rw add-one refl
