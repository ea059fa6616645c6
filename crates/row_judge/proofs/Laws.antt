-- Laws of the rows' verdict: a row by its number, the verdict by its tests, and that it looks at the used rows alone.
-- Assumes nothing.
use Rattle.std.specs.Prelude.{◌≡◌, Bool, true, false, ◌&&◌, leb}
use Rattle.std.proofs.Math.Path.{refl, sym, ap}
use Rattle.std.proofs.Common.{ap₂, ◌∙◌, arith}
use Rattle.std.proofs.Math.Logic.{by_cases}
use Rattle.std.proofs.Math.Bool.{not}
use Prim.Native.Nat.{ℕ, ◌+◌, ◌-◌, ◌≤◌, ◌<◌}
use Rattle.std.proofs.Math.Decide.{dec_lt}
use borrow.Author.Tests.{leb-true, lt-ltb, le-ltb}
use Rattle.theory.specs.Below.{first_below}
use Rattle.theory.specs.Sheet.{Sheet, periodic_fits, trigger_fits}
use Rattle.theory.proofs.Laws.Tests.{and_left, and_right}
use Rattle.theory.proofs.Laws.First.{first_same}
use Rattle.answers.specs.declared.Name.TheVariants.{Field, TooMany}
use Rattle.answers.specs.Answers.{refuse, pass}
use Rattle.row_judge.specs.Judge.{few_rows, roles_fit, row_count, row_fits, first_unfit, judge_rows}

-- two limits at once
pub limits_say : (a b c d : ℕ) → (leb a b && leb c d) ≡ true → (a ≤ b) × (c ≤ d)
limits_say a b c d h = (leb-true a b (and_left (leb a b) (leb c d) h), leb-true c d (and_right (leb a b) (leb c d) h))

module _ (sh : Sheet) where
  -- ---- a row by its number

  pub fits_periodic : (k : ℕ) → k < sh.periodic_count → row_fits sh k ≡ periodic_fits sh.role_count (sh.periodic k)
  unfolding row_fits
  fits_periodic k l = rw (lt-ltb k sh.periodic_count l) refl

  pub fits_after : (k : ℕ) → sh.periodic_count ≤ k → row_fits sh k ≡ trigger_fits sh.role_count (sh.trigger (k - sh.periodic_count))
  unfolding row_fits
  fits_after k l = rw (le-ltb k sh.periodic_count l) refl

  pub fits_trigger : (k : ℕ) → row_fits sh (sh.periodic_count + k) ≡ trigger_fits sh.role_count (sh.trigger k)
  fits_trigger k =
      let n : ℕ = sh.periodic_count in
      let e : n + k - n ≡ k = omega arith in
      fits_after (n + k) (omega arith) ∙ ap (λ (i : ℕ). trigger_fits sh.role_count (sh.trigger i)) e

  -- ---- the verdict by its tests

  module _ (few : Bool) (p : few ≡ few_rows sh) where
    pub rows_many : few ≡ false → refuse TooMany 0 ≡ judge_rows sh
    unfolding judge_rows
    rows_many f = rw (sym p ∙ f) refl

    module _ (fit : Bool) (q : fit ≡ roles_fit sh) (f : few ≡ true) where
      pub rows_roles : fit ≡ false → refuse Field 0 ≡ judge_rows sh
      unfolding judge_rows
      rows_roles r = rw (sym p ∙ f, sym q ∙ r) refl

      module _ (r : fit ≡ true) (first : ℕ) (u : first ≡ first_unfit sh) where
        pub rows_unfit : first < row_count sh → refuse Field first ≡ judge_rows sh
        unfolding judge_rows
        rows_unfit l = rw (sym p ∙ f, sym q ∙ r, sym u, lt-ltb first (row_count sh) l) refl

        pub rows_fit : row_count sh ≤ first → pass ≡ judge_rows sh
        unfolding judge_rows
        rows_fit l = rw (sym p ∙ f, sym q ∙ r, sym u, le-ltb first (row_count sh) l) refl

-- ---- the verdict looks at the used rows alone: sheets whose rows hold what they may alike are judged alike

module _ (a b : Sheet) (n : a.role_count ≡ b.role_count) (p : a.periodic_count ≡ b.periodic_count) (t : a.trigger_count ≡ b.trigger_count)
    (periodics : (i : ℕ) → i < a.periodic_count → periodic_fits a.role_count (a.periodic i) ≡ periodic_fits b.role_count (b.periodic i))
    (triggers : (i : ℕ) → i < a.trigger_count → trigger_fits a.role_count (a.trigger i) ≡ trigger_fits b.role_count (b.trigger i)) where
  row_same : (k : ℕ) → k < row_count a → row_fits a k ≡ row_fits b k
  row_same k l =
      by_cases (dec_lt k a.periodic_count)
      (λ (m : k < a.periodic_count). fits_periodic a k m ∙ (periodics k m ∙ sym (fits_periodic b k (omega arith))))
      (λ (m : ¬ (k < a.periodic_count)).
      let i : ℕ = k - a.periodic_count in
      let e : k ≡ a.periodic_count + i = omega arith in
      let f : k ≡ b.periodic_count + i = omega arith in
      (ap (row_fits a) e ∙ fits_trigger a i) ∙ (triggers i (omega arith) ∙ sym (ap (row_fits b) f ∙ fits_trigger b i)))

  unfit_same : first_unfit a ≡ first_unfit b
  unfolding first_unfit
  unfit_same = first_same (row_count a) _ _ (λ k l. ap not (row_same k l)) ∙ ap (λ (m : ℕ). first_below m (λ k. not (row_fits b k))) (ap₂ ◌+◌ p t)

  pub rows_same : judge_rows a ≡ judge_rows b
  unfolding judge_rows few_rows roles_fit
  rows_same = rw (unfit_same, n, p, t)
