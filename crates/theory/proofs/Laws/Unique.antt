-- Under a stratification any two solutions are equal. Two sets that agree below a level cause sets that agree up to it: hand `least` the members of one
-- caused set that are also in the other where their level is that low. The rest is induction on the level.
-- Assumes nothing.
use Rattle.std.specs.Prelude.{◌≡◌, Bool, true, false, not, ◌&&◌, ◌||◌}
use Rattle.std.proofs.Common.{sym, ⊎_elim, arith}
use Rattle.std.proofs.Math.Path.{fun_ext}
use Prim.Native.Nat.{ℕ, zero, suc, ◌≤◌}
use Rattle.std.proofs.Math.Dec.{leb}
use borrow.Author.Tests.{leb-true, le-leb}
use Rattle.theory.specs.Events.{Events, conf}
use Rattle.theory.specs.Sheet.{Sheet}
use Rattle.theory.specs.Instant.{Closed, IsLeast}
use Rattle.theory.specs.Solving.{Stratified, AgreeBelow}
use Rattle.theory.proofs.Laws.Tests.{and_left, and_right, and_both, or_left, or_right, test, fails_not, bool_ext}
use Rattle.theory.proofs.Laws.Instant.{met_map, met_mono}

-- the members of X, of which those at the levels up to k are in X' too
up_to : (ℕ → ℕ) → ℕ → Events → Events → Events
up_to level k X X' e p = X e p && (not (leb (level e) k) || X' e p)

up_to_left : (level : ℕ → ℕ) (k : ℕ) (X X' : Events) (e p : ℕ) → up_to level k X X' e p ≡ true → X e p ≡ true
unfolding up_to
up_to_left level k X X' e p h = and_left (X e p) (not (leb (level e) k) || X' e p) h

up_to_right : (level : ℕ → ℕ) (k : ℕ) (X X' : Events) (e p : ℕ) → level e ≤ k → up_to level k X X' e p ≡ true → X' e p ≡ true
unfolding up_to
up_to_right level k X X' e p l h = rw (le-leb (level e) k l) at (and_right (X e p) (not (leb (level e) k) || X' e p) h)

module _ (sh : Sheet) (on : ℕ → Bool) (G : Events) (level : ℕ → ℕ) (st : Stratified sh on level) where
  up_to_closed : (k : ℕ) (S S' X X' : Events) → AgreeBelow level k S S' → Closed sh on G S X → Closed sh on G S' X' → Closed sh on G S (up_to level k X X')
  unfolding up_to
  up_to_closed k S S' X X' a c c' =
      record {
        holds_givens = λ e p g. and_both (c.holds_givens e p g) (or_right (not (leb (level e) k)) (c'.holds_givens e p g));
        holds_heads = λ i l o b.
            let h : ℕ = (sh.trigger i).head in
            and_both
            (c.holds_heads i l o (met_mono S (up_to level k X X') X (sh.trigger i) (up_to_left level k X X') b))
            (⊎_elim
            (λ (t : leb (level h) k ≡ true).
            let lk : level h ≤ k = leb-true _ _ t in
            or_right
            (not (leb (level h) k))
            (c'.holds_heads i l o
            (met_map S S' (up_to level k X X') X' (sh.trigger i)
            (λ j m. a (conf ((sh.trigger i).event j)) (omega (arith, (st i j l o m).1)))
            (λ j m q. up_to_right level k X X' ((sh.trigger i).event j) q (omega (arith, (st i j l o m).0)))
            b)))
            (λ (f : leb (level h) k ≡ false). or_left (X' h (sh.trigger i).priority) (fails_not f))
            (test (leb (level h) k)));
      }

  caused_half : (k : ℕ) (S S' X X' : Events) → AgreeBelow level k S S' → IsLeast sh on G S X → IsLeast sh on G S' X' → (e p : ℕ) → level e ≤ k → X e p ≡ true → X' e p ≡ true
  caused_half k S S' X X' a c c' e p l h =
      up_to_right level k X X' e p l (c.least (up_to level k X X') (up_to_closed k S S' X X' a c.closed c'.closed) e p h)

  pub caused_agree : (k : ℕ) (S S' X X' : Events) → AgreeBelow level k S S' → IsLeast sh on G S X → IsLeast sh on G S' X' → AgreeBelow level (suc k) X X'
  caused_agree k S S' X X' a c c' e l =
      fun_ext (λ p.
      bool_ext (X e p) (X' e p)
      (caused_half k S S' X X' a c c' e p (omega arith))
      (caused_half k S' S X' X (λ d m. sym (a d m)) c' c e p (omega arith)))

  solutions_agree : (k : ℕ) (S S' : Events) → IsLeast sh on G S S → IsLeast sh on G S' S' → AgreeBelow level k S S'
  solutions_agree zero S S' s s' = λ e l. absurd (omega arith)
  solutions_agree (suc k) S S' s s' = caused_agree k S S' S S' (solutions_agree k S S' s s') s s'

  pub unique : (S S' : Events) → IsLeast sh on G S S → IsLeast sh on G S' S' → S ≡ S'
  unique S S' s s' = fun_ext (λ e. solutions_agree (suc (level e)) S S' s s' e (omega arith))
