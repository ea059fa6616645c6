-- The words leave no choice: a sheet is refused at one line with one name, and not where it reads whole.
-- Assumes nothing.
use Rattle.std.specs.Prelude.{◌≡◌, List, ℕ, suc, ◌≤◌, ◌<◌, length}
use Rattle.std.proofs.Common.{sym, ap, ◌∙◌, subst, arith}
use Rattle.std.proofs.Math.Logic.{by_cases}
use Rattle.std.proofs.Math.Decide.{dec_lt}
use Rattle.answers.specs.declared.Name.{Name}
use Rattle.answers.specs.declared.Refusal.{Refusal}
use Rattle.answers.specs.Answers.{refusal, refuse}
use Rattle.answers.proofs.Laws.{no_pass}
use Rattle.line_by_line.specs.Tests.{order}
use Rattle.line_by_line.specs.ComesBack.{frames_before, the_line, Passes, Fails, Fault, fails, no_final, no_end, RefusedAt, ReadsWhole}
use Rattle.line_by_line.proofs.Laws.Order.{judged_pass, judged_fail}

module _ (all : List (List ℕ)) (rest : List ℕ) where
  -- a line that passes fails no test, and one that fails has one first
  passes_not : (name : Name) (k : ℕ) → Passes all k → Fails name all k → ⊥
  passes_not name k p f = no_pass _ (sym (judged_fail (frames_before all k) (the_line all k) order name k f) ∙ judged_pass (frames_before all k) (the_line all k) order k p)

  fails_one : (a b : Name) (k : ℕ) → Fails a all k → Fails b all k → a ≡ b
  fails_one a b k f g =
      let e : refuse a k ≡ refuse b k = sym (judged_fail (frames_before all k) (the_line all k) order a k f) ∙ judged_fail (frames_before all k) (the_line all k) order b k g in
      let q : refusal a k ≡ refusal b k = cc in
      ap (λ (r : Refusal). r.name) q

  -- a fault is at a line, or at the one after the last
  fault_at : (name : Name) (k : ℕ) → Fault all rest name k → k ≤ suc (length all)
  fault_at name k (fails l f) = omega arith
  fault_at name k (no_final e c n) = omega arith
  fault_at name k (no_end e c z n) = omega arith

  -- a line that is there and passes has none
  passes_no_fault : (name : Name) (k : ℕ) → k ≤ length all → Passes all k → Fault all rest name k → ⊥
  passes_no_fault name k l p (fails m f) = passes_not name k p f
  passes_no_fault name k l p (no_final e c n) = omega arith
  passes_no_fault name k l p (no_end e c z n) = omega arith

  -- a line has one fault
  fault_one : (a b : Name) (k : ℕ) → Fault all rest a k → Fault all rest b k → a ≡ b
  fault_one a b k (fails l f) (fails m g) = fails_one a b k f g
  fault_one a b k (fails l f) (no_final e c n) = absurd (omega arith)
  fault_one a b k (fails l f) (no_end e c z n) = absurd (omega arith)
  fault_one a b k (no_final e c n) (fails m g) = absurd (omega arith)
  fault_one a b k (no_final e c n) (no_final e' c' n') = n ∙ sym n'
  fault_one a b k (no_final e c n) (no_end e' c' z n') = absurd (c c')
  fault_one a b k (no_end e c z n) (fails m g) = absurd (omega arith)
  fault_one a b k (no_end e c z n) (no_final e' c' n') = absurd (c' c)
  fault_one a b k (no_end e c z n) (no_end e' c' z' n') = n ∙ sym n'

  -- no line before the one that is refused is refused
  not_before : (a b : Name) (k m : ℕ) → RefusedAt all rest a k → RefusedAt all rest b m → k < m → ⊥
  not_before a b k m x y l = passes_no_fault a k (omega (arith, l, fault_at b m y.fault)) (y.before k x.from_1 l) x.fault

  -- one line is refused, with one name
  pub refused_one : (a b : Name) (k m : ℕ) → RefusedAt all rest a k → RefusedAt all rest b m → (a ≡ b) × (k ≡ m)
  refused_one a b k m x y =
      by_cases (dec_lt k m)
      (λ (l : k < m). absurd (not_before a b k m x y l))
      (λ (l : ¬ (k < m)).
      by_cases (dec_lt m k)
      (λ (h : m < k). absurd (not_before b a m k y x h))
      (λ (h : ¬ (m < k)).
      let e : m ≡ k = omega arith in
      (fault_one a b k x.fault (subst (Fault all rest b) e y.fault), sym e)))

  -- and none where the sheet reads whole
  pub whole_not : (name : Name) (k : ℕ) → ReadsWhole all rest → RefusedAt all rest name k → ⊥
  whole_not name k w x = none x.fault
    where
      none : Fault all rest name k → ⊥
      none (fails l f) = passes_not name k (w.each k x.from_1 l) f
      none (no_final e c n) = c w.no_rest
      none (no_end e c z n) = omega (arith, w.end_there, z)
