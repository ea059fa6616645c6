-- Laws of the first field of a trigger that is outside its limit, by a search through its fields in frame order.
-- Assumes nothing.
use Rattle.std.specs.Prelude.{◌≡◌, refl, Bool, not, List, ◌++◌, ℕ, ◌+◌, ◌≤◌, ◌<◌, length}
use Rattle.std.proofs.Common.{arith, le-leb}
use Rattle.std.proofs.lemmas.Bool.{lt-leb, not-true, not-false}
use Rattle.theory.specs.Numbers.{BODY_EVENTS, BODY_CONDITIONS}
use Rattle.theory.specs.Below.{tests_below, first_below, first_failing}
use Rattle.theory.specs.Sheet.{Trigger, of_roles, event_tests, trigger_tests}
use Rattle.theory.proofs.Laws.First.{first_below_lem, first_past}
use Rattle.theory.proofs.Laws.All.{tests_pass, tests_fail, length_tests}

-- after the tests of the numbers below n, by the first of these that fails
module _ (n : ℕ) (f : ℕ → Bool) (ts : List Bool) where
  abbrev bad : ℕ → Bool
  bad j = not (f j)

  pub tests_stop : first_below n bad < n → first_failing (tests_below n f ++ ts) ≡ first_below n bad
  tests_stop l =
      let r = first_below_lem n bad l in
      tests_fail n f ts (first_below n bad) l (not-true _ r.passes) (λ j m. not-false (f j) (r.first j m))

  pub tests_go : n ≤ first_below n bad → first_failing (tests_below n f ++ ts) ≡ n + first_failing ts
  tests_go l = tests_pass n f ts (λ j m. not-false (f j) (first_past n bad l j m))

module _ (roles : ℕ) (g : Trigger) where
  abbrev first_bad_lem : ℕ
  first_bad_lem = first_failing (trigger_tests roles g)

  -- an event of the body, a condition, and what stands last
  abbrev event : ℕ → Bool
  event j = of_roles roles (g.event j)

  abbrev condition : ℕ → Bool
  condition j = of_roles roles (g.condition j)

  abbrev last : List Bool
  last = event_tests roles g.head g.priority g.delay

  pub no_event : g.event_count < 1 → 0 ≡ first_bad_lem
  no_event l = rw (lt-leb 1 g.event_count l) refl

  pub many_events : 1 ≤ g.event_count → BODY_EVENTS < g.event_count → 0 ≡ first_bad_lem
  many_events s l = rw (le-leb _ _ s, lt-leb g.event_count BODY_EVENTS l) refl

  module _ (some : 1 ≤ g.event_count) (few : g.event_count ≤ BODY_EVENTS) where
    pub many_conditions : BODY_CONDITIONS < g.condition_count → 1 ≡ first_bad_lem
    many_conditions l = rw (le-leb _ _ some, le-leb _ _ few, lt-leb g.condition_count BODY_CONDITIONS l) refl

    module _ (fits : g.condition_count ≤ BODY_CONDITIONS) where
      after_counts : first_bad_lem ≡ 2 + first_failing (tests_below g.event_count event ++ (tests_below g.condition_count condition ++ last))
      after_counts = rw (le-leb _ _ some, le-leb _ _ few, le-leb _ _ fits) (omega arith)

      pub bad_event : (k : ℕ) → k ≡ first_below g.event_count (λ j. not (event j)) → k < g.event_count → 2 + k ≡ first_bad_lem
      bad_event k e l =
          let x = tests_stop g.event_count event (tests_below g.condition_count condition ++ last) (omega (arith, e)) in
          omega (arith, after_counts, x, e)

      module _ (k : ℕ) (is : k ≡ first_below g.event_count (λ j. not (event j))) (past : g.event_count ≤ k) where
        after_events : first_bad_lem ≡ 2 + g.event_count + first_failing (tests_below g.condition_count condition ++ last)
        after_events =
            let x = tests_go g.event_count event (tests_below g.condition_count condition ++ last) (omega (arith, is)) in
            omega (arith, after_counts, x)

        pub bad_condition : (m : ℕ) → m ≡ first_below g.condition_count (λ j. not (condition j)) → m < g.condition_count → 2 + g.event_count + m ≡ first_bad_lem
        bad_condition m e l = let x = tests_stop g.condition_count condition last (omega (arith, e)) in omega (arith, after_events, x, e)

        pub bad_last : (m : ℕ) → m ≡ first_below g.condition_count (λ j. not (condition j)) → g.condition_count ≤ m → 2 + g.event_count + g.condition_count + first_failing last ≡ first_bad_lem
        bad_last m e l = let x = tests_go g.condition_count condition last (omega (arith, e)) in omega (arith, after_events, x)

  -- how many fields there are
  pub fields_of : length (trigger_tests roles g) ≡ 5 + g.event_count + g.condition_count
  fields_of =
      let a = length_tests g.event_count event (tests_below g.condition_count condition ++ last) in
      let b = length_tests g.condition_count condition last in
      omega (arith, a, b)
