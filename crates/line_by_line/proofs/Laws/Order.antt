-- Tests in their order: all pass, or one is the first that fails; and the verdict of a list of tests is the first refusal of it.
-- Assumes nothing.
use Rattle.std.specs.Prelude.{◌≡◌, refl, ◌⊎◌, true, false, cond, List, [], ◌∷◌, ◌++◌, ℕ}
use Rattle.std.proofs.Common.{ap, inl, inr, ⊎_elim}
use Rattle.theory.proofs.Laws.Tests.{and_left, and_right, and_both, test}
use Rattle.answers.specs.declared.Name.{Name}
use Rattle.answers.specs.Answers.{refuse, Verdict, pass}
use Rattle.line_by_line.specs.Tests.{passes, all_pass, FirstFails}

module _ (before : List (List ℕ)) (l : List ℕ) where
  -- the verdict of these tests: the first that fails gives its refusal
  abbrev pub judged : List Name → ℕ → Verdict
  judged [] place = pass
  judged (n ∷ ns) place = cond (passes n before l) (judged ns place) (refuse n place)

  -- where all pass, it is a pass
  pub judged_pass : (ns : List Name) (place : ℕ) → all_pass ns before l ≡ true → judged ns place ≡ pass
  judged_pass [] place h = refl
  judged_pass (n ∷ ns) place h =
      rw (and_left (passes n before l) (all_pass ns before l) h)
      (judged_pass ns place (and_right (passes n before l) (all_pass ns before l) h))

  -- where one fails after tests that pass, it is the refusal of that one
  fails_after : (earlier later : List Name) (name : Name) (place : ℕ) → all_pass earlier before l ≡ true → passes name before l ≡ false → judged (earlier ++ name ∷ later) place ≡ refuse name place
  fails_after [] later name place h f = rw f
  fails_after (n ∷ ns) later name place h f =
      rw (and_left (passes n before l) (all_pass ns before l) h)
      (fails_after ns later name place (and_right (passes n before l) (all_pass ns before l) h) f)

  -- so it is the refusal of the first that fails
  pub judged_fail : (ns : List Name) (name : Name) (place : ℕ) → FirstFails ns name before l → judged ns place ≡ refuse name place
  judged_fail ns name place x = rw x.in_order (fails_after x.earlier x.later name place x.passed x.failed)

  -- all of them pass, or one is the first that fails
  pub first : (ns : List Name) → (all_pass ns before l ≡ true) ⊎ ((name : Name) × FirstFails ns name before l)
  first [] = inl refl
  first (n ∷ ns) =
      ⊎_elim
      (λ (t : passes n before l ≡ true).
      ⊎_elim
      (λ (a : all_pass ns before l ≡ true). inl (and_both t a))
      (λ (x : (name : Name) × FirstFails ns name before l).
      let y = x.1 in
      inr (
        x.0,
        record {
          earlier = n ∷ y.earlier;
          later = y.later;
          in_order = ap (λ (r : List Name). n ∷ r) y.in_order;
          passed = and_both t y.passed;
          failed = y.failed;
        },
      ))
      (first ns))
      (λ (t : passes n before l ≡ false). inr (n, record { earlier = []; later = ns; in_order = refl; passed = refl; failed = t }))
      (test (passes n before l))
