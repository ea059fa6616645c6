-- THE LAW OF THE TABLE: where the test of an example passes, what the example says is true.
-- Assumes nothing.
use Rattle.std.specs.Prelude.{◌≡◌, refl, Bool, true, false, not, ◌&&◌, ◌||◌, List, [], ◌∷◌, ℕ, suc, ◌/◌, ◌≤◌, ◌<◌, eqb, length, get_or}
use Rattle.std.specs.Bool.{beq}
use Rattle.std.proofs.Common.{arith, eqb-true}
use Rattle.std.proofs.lemmas.Bool.{not-true}
use Rattle.theory.specs.Below.{any_below, all_below}
use Rattle.theory.specs.Events.{Events, Roles, disable, enable, odd, conf, blocked, nonblocked}
use Rattle.theory.specs.Sheet.{Trigger, Sheet, GoodOrder, trigger_fits, row_due}
use Rattle.theory.specs.Instant.{immediate, allows, met, ready, Solves, roles_after}
use Rattle.theory.specs.Graph.{counts, node, drawn, edge, NoLoop, Levels, LoopAt}
use Rattle.theory.specs.Model.{no_roles}
use Rattle.theory.specs.Box.{Fresh}
use Rattle.theory.proofs.Laws.Tests.{and_left, and_right, is_false}
use Rattle.theory.proofs.Laws.Below.{any_elim, all_elim}
use Rattle.theory.proofs.Laws.Limits.{TriggerWithin, trigger_says}
use Rattle.theory.proofs.Laws.Exists.{fire, round}
use Rattle.theory.proofs.Laws.Levels.{levels_noloop}
use Rattle.theory.proofs.Laws.OneSolution.{levels_unique}
use Rattle.theory.proofs.Laws.Sentences.{never_both}
use Rattle.table_judge.proofs.Laws.{judge_refuses_not, judge_finds}
use Rattle.examples.specs.Written.{Prioritized, among, Rule, trigger_of, rule_at, Rest, sheet_with, Fits, roles_in, rows_in}
use Rattle.examples.specs.Day.{Minute, Day, sheet_of_day, minute_at, roles_before, waits_before, state_before, Found, Worked}
use Rattle.examples.specs.Example.{Example, each, due_at, wins_over, accepted, loops, solved, as_given, never_fires, worked, row_of, Wins, SheetAccepted, SheetRefused, OnlySolution, InBody, Says, Said}
use Rattle.examples.proofs.Laws.Passes.{each_of, good_order, rules_alone, leveled, listed, loops_at, self_caused, opposed, open_found, minute_found, minutes_found, lines_found, passes, passing}
use Rattle.examples.proofs.Laws.Listed.{beq_true, among_part}
use Rattle.examples.proofs.Laws.Solved.{caused_least, late_solves, late_only}
use Rattle.examples.proofs.Laws.Looped.{good_order_lem, leveled_levels, loops_at_lem}
use Rattle.examples.proofs.Laws.Stepped.{minute_found_lem}
use Rattle.examples.proofs.Laws.Opens.{opens_read, opens_to, opens_within}
use Rattle.examples.proofs.Laws.Printed.{prints_found}

-- whether a row is due is no matter of its event
due_is : (period first run t : ℕ) (b : Bool) → beq (row_due (row_of period first run 0 0) t) b ≡ true → (event priority : ℕ) → row_due (row_of period first run event priority) t ≡ b
unfolding row_due
due_is period first run t b h event priority = beq_true _ b h

-- ---- conflicts

-- the role after, where its enable stands exactly where its disable falls
decides : (b o : Bool) → ((b || o) && not (not o)) ≡ o
decides true true = refl
decides true false = refl
decides false true = refl
decides false false = refl

wins_is : (w l : Prioritized) → passes (wins_over w l) ≡ true → Wins w l
unfolding roles_after
wins_is w l h =
    let S : Events = among (w ∷ l ∷ []) in
    let r : ℕ = w.event / 2 in
    let c : Bool = eqb l.event (conf w.event) in
    let n : Bool = not (blocked S w.event w.priority) in
    let on : Bool = beq (nonblocked S S (enable r)) (odd w.event) in
    let h₁ = and_left (c && (n && blocked S l.event l.priority)) _ h in
    let h₂ = and_right c _ h₁ in
    let h₃ = and_right (c && (n && blocked S l.event l.priority)) _ h in
    record {
      conflict = eqb-true _ _ (and_left c _ h₁);
      stands = not-true (blocked S w.event w.priority) (and_left n _ h₂);
      falls = and_right n _ h₂;
      after = λ ST.
          rw (
            beq_true (nonblocked S S (enable r)) (odd w.event) (and_left on _ h₃),
            beq_true (nonblocked S S (disable r)) (not (odd w.event)) (and_right on _ h₃),
          ) (decides (ST r) (odd w.event));
    }

-- ---- rules in any sheet

-- what fits so many roles fits more
fits_more : (m n : ℕ) (g : Trigger) → m ≤ n → trigger_fits m g ≡ true → trigger_fits n g ≡ true
fits_more m n g l h =
    let w : TriggerWithin m g = (trigger_says m g).0 h in
    (trigger_says n g).1
    (record {
      some_event = w.some_event;
      few_events = w.few_events;
      few_conditions = w.few_conditions;
      events = λ j b. omega (arith, w.events j b);
      conditions = λ j b. omega (arith, w.conditions j b);
      head = omega (arith, w.head);
      priority = w.priority;
      delay = w.delay;
    })

module _ (roles : ℕ) (rules : List Rule) (rest : Rest) where
  abbrev sh : Sheet
  sh = sheet_with rest rules

  rules_good : Fits roles rest → good_order (rules_alone roles rules) ≡ true → GoodOrder sh
  rules_good f h =
      let g : GoodOrder (rules_alone roles rules) = good_order_lem (rules_alone roles rules) h in
      record {
        some_role = f.good.some_role;
        few_roles = f.good.few_roles;
        few_periodics = f.good.few_periodics;
        few_triggers = g.few_triggers;
        periodics = f.good.periodics;
        triggers = λ i l. fits_more roles rest.role_count (trigger_of (rule_at rules i)) f.enough (g.triggers i l);
      }

  -- the tests look at the rules alone
  rules_levels : (levels : List ℕ) → leveled (rules_alone roles rules) (listed levels) ≡ true → Levels sh (listed levels)
  unfolding leveled counts node
  rules_levels levels h = leveled_levels sh (listed levels) h

  rules_loop : (place : ℕ) (back : List ℕ) → loops_at (rules_alone roles rules) place back ≡ true → LoopAt sh place
  unfolding loops_at counts node drawn edge
  rules_loop place back h = loops_at_lem sh place back h

  rules_solve : (ST : Roles) (G : Events) (ms : List Prioritized) → self_caused (rules_alone roles rules) (ready (rules_alone roles rules) no_roles) G ms ≡ true → self_caused sh (ready sh ST) G ms ≡ true
  unfolding self_caused round fire ready allows all_below
  rules_solve ST G ms h = h

  accepted_is : (levels : List ℕ) → Fits roles rest → passes (accepted roles rules levels) ≡ true → SheetAccepted sh
  accepted_is levels f h =
      let good : GoodOrder sh = rules_good f (and_left (good_order (rules_alone roles rules)) _ h) in
      let nl : NoLoop sh = levels_noloop sh (listed levels) (rules_levels levels (and_right (good_order (rules_alone roles rules)) _ h)) in
      record { good = good; no_loop = nl; verdict = judge_refuses_not sh good nl }

  loops_is : (place : ℕ) (back : List ℕ) → Fits roles rest → passes (loops roles rules place back) ≡ true → SheetRefused sh place
  loops_is place back f h =
      let good : GoodOrder sh = rules_good f (and_left (good_order (rules_alone roles rules)) _ h) in
      let loop : LoopAt sh place = rules_loop place back (and_right (good_order (rules_alone roles rules)) _ h) in
      record { loop = loop; verdict = judge_finds sh good place loop }

-- whatever the role count
module _ (rules : List Rule) (rest : Rest) where
  solved_is : (givens solution : List Prioritized) (levels : List ℕ) → passes (solved rules givens solution levels) ≡ true → OnlySolution (sheet_with rest rules) (among givens) (among solution)
  solved_is givens solution levels h =
      let sh : Sheet = sheet_with rest rules in
      let solving : Bool = each_of givens (among solution) && self_caused (rules_alone 1 rules) (ready (rules_alone 1 rules) no_roles) (among givens) solution in
      let h₁ : solving ≡ true = and_left solving _ h in
      let lv : Levels sh (listed levels) = rules_levels 1 rules rest levels (and_right solving _ h) in
      let s : (ST : Roles) → Solves sh ST (among givens) (among solution)
      = λ ST.
      caused_least sh (ready sh ST) (among givens) solution
      (among_part givens (among solution) (and_left (each_of givens (among solution)) _ h₁))
      (rules_solve 1 rules rest ST (among givens) solution (and_right (each_of givens (among solution)) _ h₁)) in
      record { solution = s; only = λ ST T t. levels_unique sh (listed levels) lv ST (among givens) T (among solution) t (s ST) }

  as_given_is : (G : Events) → passes (as_given rules) ≡ true → OnlySolution (sheet_with rest rules) G G
  as_given_is G h =
      let late : (i : ℕ) → i < length rules → immediate (trigger_of (rule_at rules i)) ≡ false
      = λ i l. not-true (immediate (trigger_of (rule_at rules i))) (all_elim (length rules) (λ i. not (immediate (trigger_of (rule_at rules i)))) h i l) in
      record { solution = λ ST. late_solves (sheet_with rest rules) late ST G; only = λ ST. late_only (sheet_with rest rules) late ST G }

-- ---- a body that no solution meets

never_is : (events : List ℕ) → passes (never_fires events) ≡ true → (g : Trigger) → InBody events g → (S : Events) → met S S g ≡ false
unfolding met
never_is events h g b S =
    let o : ℕ → ℕ → Bool = λ j k. opposed (get_or events j 0) (get_or events k 0) in
    let x = any_elim (length events) (λ j. any_below (length events) (o j)) h in
    let y = any_elim (length events) (o x.0) x.2 in
    let j = b x.0 x.1 in
    let k = b y.0 y.1 in
    let r : ℕ = get_or events y.0 0 / 2 in
    let en : Bool = eqb (get_or events x.0 0) (enable r) in
    let on : g.event j.0 ≡ enable r = rw j.2 (eqb-true _ _ (and_left en _ y.2)) in
    let off : g.event k.0 ≡ disable r = rw k.2 (eqb-true _ _ (and_right en _ y.2)) in
    is_false (all_below g.event_count (λ j. nonblocked S S (g.event j))) (λ m.
    let each : (j : ℕ) → j < g.event_count → nonblocked S S (g.event j) ≡ true = all_elim g.event_count (λ j. nonblocked S S (g.event j)) m in
    never_both S r (rw on at (each j.0 j.1)) (rw off at (each k.0 k.1)))

-- ---- a day

worked_is : (d : Day) → passes (worked d) ≡ true → Worked d
unfolding minutes_found roles_in rows_in any_below
worked_is d h =
    let ms : List Minute = d.minutes in
    let sh : Sheet = sheet_of_day d in
    let found : ℕ → Bool = λ t. minute_found sh d.requests t (roles_before ms t) (waits_before ms t) (minute_at ms t) in
    let rules : Bool = good_order sh && leveled sh (listed d.levels) in
    let h₁ : rules ≡ true = and_left rules _ h in
    let h₂ = and_right rules _ h in
    let h₃ = and_right (open_found d) _ h₂ in
    let good : GoodOrder sh = good_order_lem sh (and_left (good_order sh) _ h₁) in
    let nl : NoLoop sh = levels_noloop sh (listed d.levels) (leveled_levels sh (listed d.levels) (and_right (good_order sh) _ h₁)) in
    let input : open_found d ≡ true = and_left (open_found d) _ h₂ in
    let fresh : Fresh no_roles (state_before ms 0) = record { instant = refl; roles = λ r. refl; waiting = λ k e p l. refl } in
    let minutes : (t : ℕ) → t ≤ d.last → Found d t
    = λ t l. minute_found_lem sh d.requests t (roles_before ms t) (waits_before ms t) good nl (minute_at ms t) (all_elim (suc d.last) found (and_left (minutes_found d) _ h₃) t (omega arith)) in
    record {
      read = opens_read d good nl input;
      opened = opens_to d good nl input;
      fresh = fresh;
      minutes = minutes;
      printed = prints_found d good nl fresh minutes (opens_within d good nl input) (and_right (minutes_found d) (lines_found d) h₃) (opens_to d good nl input);
    }

-- ---- THE LAW

sound : (x : Example) → passes x ≡ true → Says x
sound (each n f) h = λ i l. sound (f i) (all_elim n (λ i. passes (f i)) h i l)
sound (due_at period first run t b) h = due_is period first run t b h
sound (wins_over w l) h = wins_is w l h
sound (accepted roles rules levels) h = λ rest f. accepted_is roles rules rest levels f h
sound (loops roles rules place back) h = λ rest f. loops_is roles rules rest place back f h
sound (solved rules givens solution levels) h = λ rest. solved_is rules rest givens solution levels h
sound (as_given rules) h = λ rest G. as_given_is rules rest G h
sound (never_fires events) h = λ sh i l b ST G S s. never_is events h (sh.trigger i) b S
sound (worked d) h = worked_is d h

pub all_sound : (xs : List Example) → passing xs ≡ true → Said xs
all_sound [] h = tt
all_sound (x ∷ xs) h = (sound x (and_left (passes x) (passing xs) h), all_sound xs (and_right (passes x) (passing xs) h))
