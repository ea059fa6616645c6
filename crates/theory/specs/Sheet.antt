-- A rule sheet as rows, what each row may hold, and when a periodic row is due: document 01, 'The sheet'.
-- Assumes nothing.
use Rattle.std.specs.Prelude.{◌≡◌, Bool, true, ◌&&◌, ◌||◌, List, [], ◌∷◌, ◌++◌, ℕ, ◌+◌, ◌-◌, ◌*◌, ◌%◌, ◌≤◌, ◌<◌, leb, ltb, eqb}
use Rattle.theory.specs.Numbers.{ROLES, PRIORITIES, LAST_INSTANT, PERIODIC_ROWS, TRIGGER_ROWS, LONGEST_DELAY, NO_END, LONGEST_PERIOD, BODY_EVENTS, BODY_CONDITIONS}
use Rattle.theory.specs.Below.{any_below, all, tests_below}
use Rattle.theory.specs.Events.{Events}

-- A periodic row, field by field.
pub record Periodic : Type 0 where
  pub begin : ℕ
  pub end : ℕ
  pub period : ℕ
  pub first : ℕ
  pub run : ℕ
  pub event : ℕ
  pub priority : ℕ

-- A trigger: its body events are `event j` for each j below event_count, its conditions likewise; what stands past a count is ignored.
pub record Trigger : Type 0 where
  pub event_count : ℕ
  pub condition_count : ℕ
  pub event : ℕ → ℕ
  pub condition : ℕ → ℕ
  pub head : ℕ
  pub priority : ℕ
  pub delay : ℕ

-- A sheet: the role count, and the rows in sheet order; what stands past a count is ignored.
pub record Sheet : Type 0 where
  pub role_count : ℕ
  pub periodic_count : ℕ
  pub trigger_count : ℕ
  pub periodic : ℕ → Periodic
  pub trigger : ℕ → Trigger

-- ---- what a row may hold

-- an event or a condition is below twice the role count
abbrev pub of_roles : ℕ → ℕ → Bool
of_roles role_count e = ltb e (2 * role_count)

abbrev pub is_priority : ℕ → Bool
is_priority p = ltb p PRIORITIES

-- End is at least begin and at most the last instant, or it is the mark for no end.
unfoldable pub end_fits : ℕ → ℕ → Bool
end_fits begin end = (leb begin end && leb end LAST_INSTANT) || eqb end NO_END

-- a periodic row's tests, one a field, in frame order
abbrev pub periodic_tests : ℕ → Periodic → List Bool
periodic_tests role_count w =
    leb w.begin LAST_INSTANT
    ∷ end_fits w.begin w.end
    ∷ (leb 1 w.period && leb w.period LONGEST_PERIOD)
    ∷ ltb w.first w.period
    ∷ (leb 1 w.run && leb w.run w.period)
    ∷ of_roles role_count w.event
    ∷ is_priority w.priority
    ∷ []

unfoldable pub periodic_fits : ℕ → Periodic → Bool
periodic_fits role_count w = all (periodic_tests role_count w)

-- the tests of an event with its priority and its delay, as a trigger's head and a request have them, one a field, in frame order
abbrev pub event_tests : ℕ → ℕ → ℕ → ℕ → List Bool
event_tests role_count e p d = of_roles role_count e ∷ is_priority p ∷ leb d LONGEST_DELAY ∷ []

-- a trigger's tests likewise: the counts, each event, each condition, and the head with its priority and delay
abbrev pub trigger_tests : ℕ → Trigger → List Bool
trigger_tests role_count g =
    (leb 1 g.event_count && leb g.event_count BODY_EVENTS)
    ∷ leb g.condition_count BODY_CONDITIONS
    ∷ (tests_below g.event_count (λ j. of_roles role_count (g.event j))
    ++ (tests_below g.condition_count (λ j. of_roles role_count (g.condition j))
    ++ event_tests role_count g.head g.priority g.delay))

unfoldable pub trigger_fits : ℕ → Trigger → Bool
trigger_fits role_count g = all (trigger_tests role_count g)

-- A sheet in good order: no field and no count outside its limit.
pub record GoodOrder (sh : Sheet) : Type 0 where
  pub some_role : 1 ≤ sh.role_count
  pub few_roles : sh.role_count ≤ ROLES
  pub few_periodics : sh.periodic_count ≤ PERIODIC_ROWS
  pub few_triggers : sh.trigger_count ≤ TRIGGER_ROWS
  pub periodics : (i : ℕ) → i < sh.periodic_count → periodic_fits sh.role_count (sh.periodic i) ≡ true
  pub triggers : (i : ℕ) → i < sh.trigger_count → trigger_fits sh.role_count (sh.trigger i) ≡ true

-- ---- due

-- t ≤ end, where the mark for no end is above every instant
unfoldable pub until_end : ℕ → ℕ → Bool
until_end end t = leb t end || eqb end NO_END

-- A periodic row is due at t when begin ≤ t ≤ end and (t + period − first) mod period < run. (Of a row within its limits no period is 0 and first is below it.)
unfoldable pub row_due : Periodic → ℕ → Bool
row_due w t = (leb w.begin t && until_end w.end t) && ltb ((t + w.period - w.first) % w.period) w.run

-- p:e is the event a with the priority b
abbrev pub is : ℕ → ℕ → Events
is a b e p = eqb a e && eqb b p

-- p:e is due at t
unfoldable pub due : Sheet → ℕ → Events
due sh t e p = any_below sh.periodic_count (λ i. row_due (sh.periodic i) t && is (sh.periodic i).event (sh.periodic i).priority e p)
