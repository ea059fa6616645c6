-- What the tests of a row's and a request's limits say, as statements about numbers.
-- Assumes nothing.
use Rattle.std.specs.Prelude.{◌≡◌, refl, ◌⊎◌, ◌↔◌, Bool, true, ◌&&◌, ℕ, ◌*◌, ◌≤◌, ◌<◌, leb, ltb, eqb}
use Rattle.std.proofs.Common.{sym, ◌∙◌, inl, inr, ⊎_elim, ltb-true, lt-ltb, leb-true, le-leb, eqb-true, eq-eqb}
use Rattle.theory.specs.Numbers.{PRIORITIES, LAST_INSTANT, LONGEST_DELAY, NO_END, LONGEST_PERIOD, BODY_EVENTS, BODY_CONDITIONS}
use Rattle.theory.specs.Below.{all_below}
use Rattle.theory.specs.Sheet.{Periodic, Trigger, of_roles, is_priority, end_fits, periodic_fits, trigger_fits}
use Rattle.theory.specs.Instant.{request_fits}
use Rattle.theory.proofs.Laws.Tests.{and_left, and_right, and_both, or_left, or_right, or_cases}
use Rattle.theory.proofs.Laws.Below.{all_intro, all_elim}
use Rattle.theory.proofs.Laws.All.{all_cons, all_tests}

-- Begin is at most 16,777,215. End is at least begin and at most 16,777,215, or FFFFFFFF. Period 1 to 10,080, first below period, run 1 to period.
pub record PeriodicWithin (role_count : ℕ) (w : Periodic) : Type 0 where
  pub begin : w.begin ≤ LAST_INSTANT
  pub end : ((w.begin ≤ w.end) × (w.end ≤ LAST_INSTANT)) ⊎ (w.end ≡ NO_END)
  pub some_period : 1 ≤ w.period
  pub period : w.period ≤ LONGEST_PERIOD
  pub first : w.first < w.period
  pub some_run : 1 ≤ w.run
  pub run : w.run ≤ w.period
  pub event : w.event < 2 * role_count
  pub priority : w.priority < PRIORITIES

-- 1 to 4 events and 0 to 4 conditions, each below twice the role count, as is the head; priority at most 15, delay at most 60.
pub record TriggerWithin (role_count : ℕ) (g : Trigger) : Type 0 where
  pub some_event : 1 ≤ g.event_count
  pub few_events : g.event_count ≤ BODY_EVENTS
  pub few_conditions : g.condition_count ≤ BODY_CONDITIONS
  pub events : (j : ℕ) → j < g.event_count → g.event j < 2 * role_count
  pub conditions : (j : ℕ) → j < g.condition_count → g.condition j < 2 * role_count
  pub head : g.head < 2 * role_count
  pub priority : g.priority < PRIORITIES
  pub delay : g.delay ≤ LONGEST_DELAY

-- Event below twice the role count, priority at most 15, delay at most 60.
pub record RequestWithin (role_count d e p : ℕ) : Type 0 where
  pub event : e < 2 * role_count
  pub priority : p < PRIORITIES
  pub delay : d ≤ LONGEST_DELAY

end_says : (begin end : ℕ) → (end_fits begin end ≡ true) ↔ (((begin ≤ end) × (end ≤ LAST_INSTANT)) ⊎ (end ≡ NO_END))
unfolding end_fits
end_says begin end =
    let a : Bool = leb begin end in
    let b : Bool = leb end LAST_INSTANT in (
      (λ h.
          ⊎_elim
          (λ (k : (a && b) ≡ true). inl (leb-true _ _ (and_left a b k), leb-true _ _ (and_right a b k)))
          (λ (k : eqb end NO_END ≡ true). inr (eqb-true _ _ k))
          (or_cases (a && b) (eqb end NO_END) h)),
      ⊎_elim
          (λ (k : (begin ≤ end) × (end ≤ LAST_INSTANT)). or_left (eqb end NO_END) (and_both (le-leb _ _ k.0) (le-leb _ _ k.1)))
          (λ (k : end ≡ NO_END). or_right (a && b) (eq-eqb _ _ k)),
    )

pub periodic_says : (n : ℕ) (w : Periodic) → (periodic_fits n w ≡ true) ↔ PeriodicWithin n w
unfolding periodic_fits
periodic_says n w = (
  (λ h.
      let h₁ = and_right (leb w.begin LAST_INSTANT) _ h in
      let h₂ = and_right (end_fits w.begin w.end) _ h₁ in
      let p = and_left (leb 1 w.period && leb w.period LONGEST_PERIOD) _ h₂ in
      let h₃ = and_right (leb 1 w.period && leb w.period LONGEST_PERIOD) _ h₂ in
      let h₄ = and_right (ltb w.first w.period) _ h₃ in
      let r = and_left (leb 1 w.run && leb w.run w.period) _ h₄ in
      let h₅ = and_right (leb 1 w.run && leb w.run w.period) _ h₄ in
      record {
        begin = leb-true _ _ (and_left (leb w.begin LAST_INSTANT) _ h);
        end = (end_says w.begin w.end).0 (and_left (end_fits w.begin w.end) _ h₁);
        some_period = leb-true _ _ (and_left (leb 1 w.period) _ p);
        period = leb-true _ _ (and_right (leb 1 w.period) _ p);
        first = ltb-true _ _ (and_left (ltb w.first w.period) _ h₃);
        some_run = leb-true _ _ (and_left (leb 1 w.run) _ r);
        run = leb-true _ _ (and_right (leb 1 w.run) _ r);
        event = ltb-true _ _ (and_left (of_roles n w.event) _ h₅);
        priority = ltb-true _ _ (and_right (of_roles n w.event) _ h₅);
      }),
  (λ x.
      and_both (le-leb _ _ x.begin)
      (and_both ((end_says w.begin w.end).1 x.end)
      (and_both (and_both (le-leb _ _ x.some_period) (le-leb _ _ x.period))
      (and_both (lt-ltb _ _ x.first)
      (and_both (and_both (le-leb _ _ x.some_run) (le-leb _ _ x.run))
      (and_both (lt-ltb _ _ x.event) (lt-ltb _ _ x.priority))))))),
)

-- the tests of the events taken together, and those of the conditions
pub trigger_tests_lem : (n : ℕ) (g : Trigger) → trigger_fits n g
    ≡ ((leb 1 g.event_count && leb g.event_count BODY_EVENTS)
    && (leb g.condition_count BODY_CONDITIONS
    && (all_below g.event_count (λ j. of_roles n (g.event j))
    && (all_below g.condition_count (λ j. of_roles n (g.condition j))
    && (of_roles n g.head
    && (is_priority g.priority
    && leb g.delay LONGEST_DELAY))))))
unfolding trigger_fits
trigger_tests_lem n g = rw (all_cons, all_cons, all_tests, all_tests) refl

pub trigger_says : (n : ℕ) (g : Trigger) → (trigger_fits n g ≡ true) ↔ TriggerWithin n g
trigger_says n g =
    let events : ℕ → Bool = λ j. of_roles n (g.event j) in
    let conditions : ℕ → Bool = λ j. of_roles n (g.condition j) in (
      (λ fits.
          let h = sym (trigger_tests_lem n g) ∙ fits in
          let c = and_left (leb 1 g.event_count && leb g.event_count BODY_EVENTS) _ h in
          let h₁ = and_right (leb 1 g.event_count && leb g.event_count BODY_EVENTS) _ h in
          let h₂ = and_right (leb g.condition_count BODY_CONDITIONS) _ h₁ in
          let h₃ = and_right (all_below g.event_count events) _ h₂ in
          let h₄ = and_right (all_below g.condition_count conditions) _ h₃ in
          let h₅ = and_right (of_roles n g.head) _ h₄ in
          record {
            some_event = leb-true _ _ (and_left (leb 1 g.event_count) _ c);
            few_events = leb-true _ _ (and_right (leb 1 g.event_count) _ c);
            few_conditions = leb-true _ _ (and_left (leb g.condition_count BODY_CONDITIONS) _ h₁);
            events = λ j l. ltb-true _ _ (all_elim g.event_count events (and_left (all_below g.event_count events) _ h₂) j l);
            conditions = λ j l. ltb-true _ _ (all_elim g.condition_count conditions (and_left (all_below g.condition_count conditions) _ h₃) j l);
            head = ltb-true _ _ (and_left (of_roles n g.head) _ h₄);
            priority = ltb-true _ _ (and_left (is_priority g.priority) _ h₅);
            delay = leb-true _ _ (and_right (is_priority g.priority) _ h₅);
          }),
      (λ x.
          trigger_tests_lem n g
          ∙ and_both (and_both (le-leb _ _ x.some_event) (le-leb _ _ x.few_events))
          (and_both (le-leb _ _ x.few_conditions)
          (and_both (all_intro g.event_count events (λ j l. lt-ltb _ _ (x.events j l)))
          (and_both (all_intro g.condition_count conditions (λ j l. lt-ltb _ _ (x.conditions j l)))
          (and_both (lt-ltb _ _ x.head) (and_both (lt-ltb _ _ x.priority) (le-leb _ _ x.delay))))))),
    )

pub request_says : (n d e p : ℕ) → (request_fits n d e p ≡ true) ↔ RequestWithin n d e p
unfolding request_fits
request_says n d e p = (
  (λ h.
      let h₁ = and_right (of_roles n e) _ h in
      record {
        event = ltb-true _ _ (and_left (of_roles n e) _ h);
        priority = ltb-true _ _ (and_left (is_priority p) _ h₁);
        delay = leb-true _ _ (and_right (is_priority p) _ h₁);
      }),
  (λ x. and_both (lt-ltb _ _ x.event) (and_both (lt-ltb _ _ x.priority) (le-leb _ _ x.delay))),
)
