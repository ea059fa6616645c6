-- What a verdict of the judge says, for callers: a pass is good order without a loop and gives levels, and each refusal says why. (`Found` and `Answer` are what the proofs of the code use.)
-- Assumes nothing.
use Rattle.std.specs.Prelude.{◌≡◌, ◌⊎◌, Bool, true, false, ◌&&◌, List, ℕ, ◌+◌, ◌-◌, ◌≤◌, ◌<◌, leb, Err}
use Rattle.std.proofs.Math.Path.{refl, sym, ap}
use Rattle.std.proofs.Common.{subst, ◌∙◌, arith}
use Rattle.std.proofs.Math.Logic.{inl, inr, ⊎_elim, by_cases}
use Rattle.std.proofs.Math.Bool.{not}
use Rattle.std.proofs.Math.Decide.{dec_lt}
use borrow.Author.Tests.{le-leb, lt-ltb, le-ltb, not-true, not-false}
use Rattle.theory.specs.Numbers.{ROLES, PERIODIC_ROWS, TRIGGER_ROWS}
use Rattle.theory.specs.Sheet.{Sheet, GoodOrder}
use Rattle.theory.specs.Graph.{NoLoop, LoopAt, Levels}
use Rattle.theory.specs.LoopTest.{PAIRS, loop_place}
use Rattle.theory.proofs.Laws.Tests.{and_both, test, not_both}
use Rattle.theory.proofs.Laws.First.{NoneBelow, FirstAt, first_none, first_says}
use Rattle.theory.proofs.Laws.Loop.{loop_or, noloop_says}
use Rattle.theory.proofs.Laws.Loop as loop
use Rattle.theory.proofs.Laws.Graph.{HeadsBelow}
use Rattle.theory.proofs.Laws.OneSolution.{good_heads}
use Rattle.answers.specs.declared.Name.{Name}
use Rattle.answers.specs.declared.Name.TheVariants.{Field, TooMany, Loop}
use Rattle.answers.specs.declared.Refusal.{Refusal}
use Rattle.answers.specs.Answers.{refuse, and_then, pass}
use Rattle.answers.proofs.Laws.{both_pass}
use Rattle.tables.specs.Layout.{byte_at}
use Rattle.loops.specs.Tested.{tested}
use Rattle.loops.specs.Laws.Says.{levels_say, nothing_says}
use Rattle.row_judge.specs.Judge.{few_rows, roles_fit, row_count, row_fits, first_unfit, judge_rows}
use Rattle.row_judge.proofs.Laws.{limits_say, fits_periodic, fits_trigger, rows_many, rows_roles, rows_unfit, rows_fit}
use Rattle.table_judge.specs.Judge.{judge_loop, judge_tables}
use Rattle.table_judge.specs.declared.Judged.{Judged}
use Rattle.table_judge.specs.Judged.{judged, loop_judged}
use Rattle.table_judge.specs.Says.{FewRows, RolesFit, UnfitAt, RefusalSays, Says}
use Rattle.table_judge.proofs.Laws.Answer.{tables_refused, tables_loop, judged_loop}
pub mod Found
pub mod Answer

-- ---- the tests, as what they test

-- one of two limits is passed over
limits_not : (a b c d : ℕ) → (leb a b && leb c d) ≡ false → (a ≤ b) × (c ≤ d) → ⊥
limits_not a b c d h l = not_both (and_both (le-leb a b l.0) (le-leb c d l.1)) h

module _ (sh : Sheet) where
  few_says : few_rows sh ≡ true → FewRows sh
  unfolding few_rows
  few_says = limits_say sh.periodic_count PERIODIC_ROWS sh.trigger_count TRIGGER_ROWS

  few_not : few_rows sh ≡ false → FewRows sh → ⊥
  unfolding few_rows
  few_not = limits_not sh.periodic_count PERIODIC_ROWS sh.trigger_count TRIGGER_ROWS

  roles_say : roles_fit sh ≡ true → RolesFit sh
  unfolding roles_fit
  roles_say = limits_say 1 sh.role_count sh.role_count ROLES

  roles_not : roles_fit sh ≡ false → RolesFit sh → ⊥
  unfolding roles_fit
  roles_not = limits_not 1 sh.role_count sh.role_count ROLES

  abbrev unfit : ℕ → Bool
  unfit k = not (row_fits sh k)

  unfit_says : (k : ℕ) → FirstAt (row_count sh) unfit k → UnfitAt sh k
  unfit_says k u = record { row = u.below; unfit = not-true (row_fits sh k) u.passes; first = λ j l. not-false (row_fits sh j) (u.first j l) }

  good : FewRows sh → RolesFit sh → NoneBelow (row_count sh) unfit → GoodOrder sh
  good f r n =
      record {
        some_role = r.0;
        few_roles = r.1;
        few_periodics = f.0;
        few_triggers = f.1;
        periodics = λ i l. sym (fits_periodic sh i l) ∙ not-false (row_fits sh i) (n i (omega arith));
        triggers = λ i l. sym (fits_trigger sh i) ∙ not-false (row_fits sh (sh.periodic_count + i)) (n (sh.periodic_count + i) (omega arith));
      }

  -- ---- whatever the judge says is so

  -- the rows pass and are in good order, or they are refused for what the refusal says
  pub rows_say : ((judge_rows sh ≡ pass) × GoodOrder sh) ⊎ ((r : Refusal) × (judge_rows sh ≡ Err r) × Says sh (Err r))
  unfolding first_unfit
  rows_say =
      ⊎_elim
      (λ (f : few_rows sh ≡ true).
      ⊎_elim
      (λ (r : roles_fit sh ≡ true).
      ⊎_elim
      (λ (n : (first_unfit sh ≡ row_count sh) × NoneBelow (row_count sh) unfit).
      inl (sym (rows_fit sh _ refl _ refl f r _ refl (omega (arith, n.0))), good (few_says f) (roles_say r) n.1))
      (λ (u : FirstAt (row_count sh) unfit (first_unfit sh)).
      inr (_, sym (rows_unfit sh _ refl _ refl f r _ refl u.below), ((few_says f, inr (roles_say r, unfit_says (first_unfit sh) u)), refl)))
      (first_says (row_count sh) unfit))
      (λ (r : roles_fit sh ≡ false). inr (_, sym (rows_roles sh _ refl _ refl f r), ((few_says f, inl (refl, roles_not r)), refl)))
      (test (roles_fit sh)))
      (λ (f : few_rows sh ≡ false). inr (_, sym (rows_many sh _ refl f), ((refl, few_not f), refl)))
      (test (few_rows sh))

  loop_say : GoodOrder sh → Says sh (judge_loop sh)
  unfolding judge_loop
  loop_say g =
      ⊎_elim
      (λ (x : (loop_place sh ≡ PAIRS) × NoLoop sh). rw (le-ltb (loop_place sh) PAIRS (omega (arith, x.0))) (g, x.1))
      (λ (y : (loop_place sh < PAIRS) × LoopAt sh (loop_place sh)). rw (lt-ltb (loop_place sh) PAIRS y.0) ((g, y.1), refl))
      (loop_or sh (good_heads sh g))

  -- THE THEOREM
  pub judge_says : Says sh (judge_tables sh)
  judge_says =
      ⊎_elim
      (λ (x : (judge_rows sh ≡ pass) × GoodOrder sh). subst (Says sh) (sym (tables_loop sh x.0)) (loop_say x.1))
      (λ (y : (r : Refusal) × (judge_rows sh ≡ Err r) × Says sh (Err r)). subst (Says sh) (sym (tables_refused sh y.0 y.1)) y.2)
      rows_say

  pub judge_passes : judge_tables sh ≡ pass → GoodOrder sh × NoLoop sh
  judge_passes e = subst (Says sh) e judge_says

  refusal_says : (n : Name) (k : ℕ) → judge_tables sh ≡ refuse n k → RefusalSays sh n k
  refusal_says n k e = (subst (Says sh) e judge_says).0

  -- TOO MANY: a count of rows is over its limit
  pub too_many_says : (k : ℕ) → judge_tables sh ≡ refuse TooMany k → (k ≡ 0) × (FewRows sh → ⊥)
  too_many_says = refusal_says TooMany

  -- FIELD: the role count is not 1 to 64 and the place is 0, or the place is that of the first row that does not hold what it may
  pub field_says : (k : ℕ) → judge_tables sh ≡ refuse Field k → ((k ≡ 0) × (RolesFit sh → ⊥)) ⊎ (RolesFit sh × UnfitAt sh k)
  field_says k e = (refusal_says Field k e).1

  -- LOOP: the place is that of the loop
  pub loop_says : (k : ℕ) → judge_tables sh ≡ refuse Loop k → LoopAt sh k
  loop_says k e = (refusal_says Loop k e).1

  -- ---- the judge is exact: it passes every sheet in good order without a loop, and refuses every one with a loop at its place

  module _ (g : GoodOrder sh) where
    all_fit : (k : ℕ) → k < row_count sh → row_fits sh k ≡ true
    all_fit k l =
        let n : ℕ = sh.periodic_count in
        by_cases (dec_lt k n)
        (λ (b : k < n). fits_periodic sh k b ∙ g.periodics k b)
        (λ (a : ¬ (k < n)).
        let e : k ≡ n + (k - n) = omega arith in
        ap (row_fits sh) e ∙ fits_trigger sh (k - n) ∙ g.triggers (k - n) (omega arith))

    rows_pass : judge_rows sh ≡ pass
    unfolding judge_rows few_rows roles_fit first_unfit
    rows_pass =
        rw (
          le-leb _ _ g.few_periodics,
          le-leb _ _ g.few_triggers,
          le-leb _ _ g.some_role,
          le-leb _ _ g.few_roles,
          first_none (row_count sh) unfit (λ k l. ap not (all_fit k l)),
          le-ltb (row_count sh) (row_count sh) (omega arith),
        ) refl

    pub judge_refuses_not : NoLoop sh → judge_tables sh ≡ pass
    unfolding judge_tables judge_loop and_then
    judge_refuses_not nl = rw (rows_pass, (noloop_says sh (good_heads sh g)).1 nl) refl

    pub judge_finds : (k : ℕ) → LoopAt sh k → judge_tables sh ≡ refuse Loop k
    unfolding judge_tables judge_loop and_then
    judge_finds k l = let r = (loop.loop_says sh (good_heads sh g) k).1 l in rw (rows_pass, r.1, lt-ltb k PAIRS r.0) refl

  -- ---- the levels of a pass

  module _ (e : judge_tables sh ≡ pass) where
    levels_tested : (judged sh).levels ≡ (tested sh).levels
    unfolding judge_tables loop_judged tested
    levels_tested = ap (λ (r : Judged). r.levels) (judged_loop sh (both_pass (judge_rows sh) (judge_loop sh) e).0)

    -- they meet the rule
    pub judged_levels : Levels sh (byte_at (judged sh).levels)
    judged_levels =
        let p : GoodOrder sh × NoLoop sh = judge_passes e in
        let hb : HeadsBelow sh = good_heads sh p.0 in
        subst (λ (l : List ℕ). Levels sh (byte_at l)) (sym levels_tested) (levels_say sh (tested sh) refl hb ((nothing_says sh (tested sh) refl hb).1 p.1))
