-- Laws of the frames of rows: a list that is made by a call at each index, and one whose first is the kind of the frame.
-- Assumes nothing.
use denote.Param.Members.{Mut}
use Rattle.std.specs.Prelude.{◌≡◌, refl, cond, List, ◌∷◌, ℕ, zero, suc, ◌+◌, ◌<◌, eqb, get_or}
use Rattle.std.specs.Array.{IsFromFnResult, IsFromFnResultFrom}
use Rattle.std.specs.Fn.{Called}
use Rattle.std.proofs.Math.Dec.{eqb-suc-zero}
use Rattle.std.proofs.Common.{sym, ◌∙◌, subst, arith, ext_get_or}
use Rattle.loops.specs.Tested.{tabulate}
use Rattle.loops.specs.Laws.Levels.{length_tabulate, get_d_tabulate}

module _ {F : Type 0} (g : Mut F (ℕ × Unit {0}) ℕ) (f : F) (h : ℕ → ℕ) (same : (i y : ℕ) (q : F) → Called g f (i, tt) y q → (q ≡ f) × (y ≡ h i)) where
  -- each is what a call that leaves the closure as it is gives
  each_given : (ys : List ℕ) (a n : ℕ) → IsFromFnResultFrom g f ys a n → (k : ℕ) → k < n → get_or ys (a + k) 0 ≡ h (a + k)
  each_given ys a zero d k l = absurd (omega arith)
  each_given ys a (suc n) d zero l = let e : a + zero ≡ a = omega arith in rw e (d.2.1 0 ∙ (same a d.1 d.0 d.3).1)
  each_given ys a (suc n) d (suc k) l =
      let e : a + 1 + k ≡ a + suc k = omega arith in
      rw e at (each_given ys (a + 1) n (subst (λ (q : F). IsFromFnResultFrom g q ys (a + 1) n) (same a d.1 d.0 d.3).0 d.4) k (omega arith))

  -- the list
  pub made_by_calls : (ys : List ℕ) (n : ℕ) → IsFromFnResult g f ys n → ys ≡ tabulate n h
  made_by_calls ys n d =
      ext_get_or 0 ys (tabulate n h) (d.long ∙ sym (length_tabulate n h))
      (λ i l.
      let z : 0 + i ≡ i = omega arith in
      rw z at (each_given ys 0 n d.each i (omega (arith, d.long))) ∙ sym (get_d_tabulate n h i (omega (arith, d.long))))

-- the kind, and what comes after it
later : (kind k : ℕ) (r : ℕ → ℕ) → cond (eqb (suc k) 0) kind (r (suc k)) ≡ r (suc k)
later kind k r = rw (eqb-suc-zero k) refl

pub after_kind : (kind n : ℕ) (r s : ℕ → ℕ) → ((k : ℕ) → r (suc k) ≡ s k) → tabulate (suc n) (λ k. cond (eqb k 0) kind (r k)) ≡ kind ∷ tabulate n s
unfolding tabulate
after_kind kind n r s e = λ i. kind ∷ tabulate n (λ k. (later kind k r ∙ e k) i)
