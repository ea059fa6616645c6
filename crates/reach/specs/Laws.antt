-- Laws of the reach as it is made, row after row and phase after phase. What stands inside a row is in none of them.
-- Assumes nothing.
use Rattle.std.specs.Prelude.{◌≡◌, Bool, true, false, ◌&&◌, ◌||◌, List, ltb, set}
use Rattle.std.proofs.Math.Path.{refl, ap}
use Rattle.std.proofs.Common.{sym, ap₂, ◌∙◌, ⊎_elim, arith, le-ltb, eq-eqb, ne_eqb, eqb-true}
use Rattle.std.proofs.Math.Bool.{and-true, and-false, or-false, or_self, or_comm}
use Prim.Native.Nat.{ℕ, zero, suc, ◌+◌, ◌≤◌, ◌<◌}
use Rattle.std.proofs.Math.Dec.{eqb}
use Rattle.theory.specs.Numbers.{EVENTS}
use Rattle.theory.specs.Graph.{Edges}
use Rattle.theory.specs.LoopTest.{through}
use Rattle.theory.proofs.Laws.Tests.{test, same_or}
use Rattle.theory.proofs.Laws.Reach.{through_start, through_next}
use Rattle.reach_row.specs.Row.{Row, RowIs}
use Rattle.reach_row.specs.Laws.Changes.{not_yet, one_more, all_made}
use Rattle.reach_row.specs.Laws.Row.{row_same}
use Rattle.reach_rows.specs.Rows.{edges_of, RowsAre, linked}
use Rattle.reach_rows.specs.Laws.Rows.{rows_same, rows_say, rows_set}
use Rattle.reach.specs.Reach.{taken_over, via}
pub mod Exact

-- ---- one row takes over another

-- a, whose row is at i, takes over what k reaches, where it reaches k
module _ (E : Edges) (rows : List Row) (h : RowsAre E rows) (a k : ℕ) (l : a < EVENTS) (m : k < EVENTS) where
  pub over_not : edges_of rows a k ≡ false → RowsAre (taken_over a k E) rows
  over_not e =
      let t : E a k ≡ false = sym (rows_say h a k l m) ∙ e in
      rows_same (taken_over a k E) (λ x y _ _. same_or (E x y) (eqb a x && (E a k && E k y)) (rw (t, and-false) refl)) h

  pub over_all : edges_of rows a k ≡ true → (i j : ℕ) (row : Row) → i ≡ a → j ≡ k → RowIs (λ y. E i y || E j y) row → RowsAre (taken_over a k E) (set rows i row)
  over_all e i j row p q r =
      let t : E a k ≡ true = sym (rows_say h a k l m) ∙ e in
      rw p
      (rows_set (taken_over a k E) a l
      (λ x y n. same_or (E x y) (eqb a x && (E a k && E k y)) (rw (ne_eqb a x (λ q. n (sym q))) refl))
      h
      (row_same (taken_over a k E a) (λ y _. rw (eq-eqb a a refl, t, p, q) refl) r))

-- ---- row after row

-- with the edges of D added that leave an event below a
abbrev pub so_far : Edges → ℕ → Edges → Edges
so_far D a E x y = E x y || (ltb x a && D x y)

module _ (E D : Edges) (rows : List Row) where
  pub far_none : RowsAre E rows → RowsAre (so_far D 0 E) rows
  far_none h = rows_same (so_far D 0 E) (λ x y _ _. not_yet (E x y) (D x y) x) h

  -- F is D from the event a
  far_next : (F : Edges) (a : ℕ) → ((y : ℕ) → F a y ≡ D a y) → RowsAre (λ x y. so_far D a E x y || (eqb a x && F x y)) rows → RowsAre (so_far D (a + 1) E) rows
  far_next F a e h =
      rows_same (so_far D (a + 1) E)
      (λ x y _ _.
      ⊎_elim
      (λ (t : eqb a x ≡ true). let q : a ≡ x = eqb-true a x t in ap (λ (z : Bool). so_far D a E x y || (eqb a x && z)) (rw q at (e y)) ∙ one_more (E x y) (D x y) x a)
      (λ (t : eqb a x ≡ false). rw (← one_more (E x y) (D x y) x a, t) refl)
      (test (eqb a x)))
      h

  far_end : (a : ℕ) → EVENTS ≤ a → RowsAre (so_far D a E) rows → RowsAre (λ x y. E x y || D x y) rows
  far_end a m h = rows_same (λ x y. E x y || D x y) (λ x y l _. all_made (E x y) (D x y) x a l m) h

-- each event reaches itself
module _ (E : Edges) (rows : List Row) (a : ℕ) where
  pub own_next : RowsAre (linked true a a (so_far eqb a E)) rows → RowsAre (so_far eqb (a + 1) E) rows
  own_next = far_next E eqb rows (λ x y. eqb a y) a (λ y. refl)

  pub own_end : EVENTS ≤ a → RowsAre (so_far eqb a E) rows → RowsAre (through E 0) rows
  own_end m h = rows_same (through E 0) (λ x y _ _. or_comm (E x y) (eqb x y) ∙ sym (through_start E x y)) (far_end E eqb rows a m h)

-- phase k: what is reached through k
abbrev pub onward : ℕ → Edges → Edges
onward k E x y = E x k && E k y

module _ (E : Edges) (rows : List Row) (k a : ℕ) where
  pub phase_next : RowsAre (taken_over a k (so_far (onward k E) a E)) rows → RowsAre (so_far (onward k E) (a + 1) E) rows
  phase_next = far_next E (onward k E) rows (λ x y. so_far (onward k E) a E a k && so_far (onward k E) a E k y) a (λ y. ap₂ ◌&&◌ at_a (at_k y))
    where
      at_a : so_far (onward k E) a E a k ≡ E a k
      at_a = rw (le-ltb a a (omega arith), or-false) refl

      absorb : (e t u : Bool) → (e || (t && (u && e))) ≡ e
      absorb true t u = refl
      absorb false t u = rw (and-false, and-false) refl

      at_k : (y : ℕ) → so_far (onward k E) a E k y ≡ E k y
      at_k y = absorb (E k y) (ltb k a) (E k k)

  pub phase_end : EVENTS ≤ a → RowsAre (so_far (onward k E) a E) rows → RowsAre (via k E) rows
  phase_end = far_end E (onward k E) rows a

-- through an event without an edge nothing leads on: it reaches itself alone
module _ (E : Edges) (k : ℕ) (l : k < EVENTS) (none : (b : ℕ) → b < EVENTS → E k b ≡ false) where
  lone : (j b : ℕ) → j ≤ EVENTS → b < EVENTS → through E j k b ≡ eqb k b
  unfolding through
  lone zero b m n = rw (none b n, or-false) refl
  lone (suc j) b m n =
      rw (lone j b (omega arith) n, lone j j (omega arith) (omega arith))
      (⊎_elim
      (λ (t : eqb k j ≡ true). let e : through E j j b ≡ eqb k b = ap (λ (z : ℕ). through E j z b) (sym (eqb-true k j t)) ∙ lone j b (omega arith) n in rw (t, e) (or_self (eqb k b)))
      (λ (t : eqb k j ≡ false). rw (t, or-false) refl)
      (test (eqb k j)))

  pub through_past : (rows : List Row) → RowsAre (through E k) rows → RowsAre (through E (k + 1)) rows
  through_past rows h = rows_same (through E (k + 1)) (λ x y _ n. sym (through_next E k x y ∙ stays x y n)) h
    where
      stays : (x y : ℕ) → y < EVENTS → (through E k x y || (through E k x k && through E k k y)) ≡ through E k x y
      stays x y n =
          rw (lone k y (omega arith) n)
          (⊎_elim
          (λ (t : eqb k y ≡ true). let q : k ≡ y = eqb-true k y t in rw (t, ← q, and-true) (or_self (through E k x k)))
          (λ (t : eqb k y ≡ false). rw (t, and-false, or-false) refl)
          (test (eqb k y)))

-- phase after phase
module _ (E : Edges) (rows : List Row) (k : ℕ) where
  pub through_more : RowsAre (via k (through E k)) rows → RowsAre (through E (k + 1)) rows
  through_more h = rows_same (through E (k + 1)) (λ x y _ _. sym (through_next E k x y)) h

  pub through_end : k ≤ EVENTS → EVENTS ≤ k → RowsAre (through E k) rows → RowsAre (through E EVENTS) rows
  through_end l m h = let e : k ≡ EVENTS = omega arith in rw e at h
