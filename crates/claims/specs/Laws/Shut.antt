-- Boxes that are shut out, by document 01's worked input: it is accepted, a sheet with a loop is not, and the first two minutes of any run on it have different events and roles.
-- Assumes nothing.
use Rattle.std.specs.Prelude.{◌≡◌, refl, List, [], ◌∷◌, ℕ, zero, suc, ◌^◌, ◌≤◌, ◌<◌, length, replicate}
use Rattle.std.proofs.Common.{sym, ap, ◌∙◌, subst, arith}
use Rattle.std.proofs.Math.Path.{fun_ext}
use Rattle.std.proofs.lemmas.Bool.{false≢true}
use Rattle.std.proofs.lemmas.List.{length-replicate, get_or-replicate}
use Rattle.theory.specs.Numbers.{EVENTS, LAST_INSTANT, REQUESTS, WAITING_NUMBERS}
use Rattle.theory.specs.Below.{any_below, all_below, count_below}
use Rattle.theory.specs.Events.{Events, Roles, enable, disable, conf, blocks, blocked, nonblocked}
use Rattle.theory.specs.Instant.{Requests, request_fits}
use Rattle.theory.specs.Box.{State, Step, SameState}
use Rattle.theory.proofs.Laws.Below.{all_elim}
use Rattle.tables.specs.Buffers.{roles_of, events_of, waiting_of, Narrow}
use Rattle.tables.specs.Asked.{asks}
use Rattle.masks.specs.Laws.Bits.{bit_none}
use Rattle.masks.specs.Laws.Held.{roles_one, waiting_none, waiting_one}
use Rattle.requests.specs.Requests.{fits, AllFit}
use Rattle.accepted.specs.Laws.Accepted.{reading_good, reading_sizes}
use Rattle.tables.specs.Lent.{Rules, sheet_in, Lent, lent, state_in}
use Rattle.step.specs.Outcome.{judge_step, Outcome}
use Rattle.step.proofs.Laws.Used.{rules_itself}
use Rattle.runs.specs.Runs.{FreshLent, HandedOn, Steps}
use Rattle.runs.proofs.Laws.{under_sheet}
use Rattle.examples.specs.Written.{◌∶◌, Prioritized, among, first, stream_of, roles_in, rows_in, state_of}
use Rattle.examples.specs.Day.{Worked}
use Rattle.examples.specs.Table.{input}
use Rattle.examples.proofs.Laws.Said.{all_say}
use Rattle.claims.specs.Words.{count_in, no_periodics, no_triggers, worked_sheet, worked, asked}
use Rattle.claims.specs.Laws.Step.{step_passes_says}
use Rattle.claims.specs.Laws.There.{step_total}
use Rattle.answers.specs.Answers.{Verdict, pass}

-- ---- the worked input

-- example 8 of the table
pub is_worked : Worked input
is_worked = all_say.1.1.1.1.1.1.1.1.1.1.1.1.1.1.1.1.0

-- what holds of 0 and of 1 holds of every number below 2
two : (P : ℕ → Type 0) → P 0 → P 1 → (t : ℕ) → t < 2 → P t
two P a b zero l = a
two P a b (suc zero) l = b
two P a b (suc (suc t)) l = absurd (omega (arith, l))

-- the requests that are lent to its first two steps are those of its tape
lent_asks : (t : ℕ) → t < 2 → asks (asked t) ≡ stream_of input.requests t
unfolding asks stream_of any_below
lent_asks =
    two (λ t. asks (asked t) ≡ stream_of input.requests t) (fun_ext (λ d. fun_ext (λ e. fun_ext (λ p. refl)))) (fun_ext (λ d. fun_ext (λ e. fun_ext (λ p. refl))))

-- ---- its first two minutes, in any run of accepted steps

-- the fresh state, and the same at instant 1
zeros : (l : Lent) (t : ℕ) → l.instant ≡ t → l.roles ≡ 0 → l.waiting ≡ replicate WAITING_NUMBERS 0 → SameState (state_in l) (state_of t [] [])
unfolding roles_in rows_in any_below
zeros l t i r w =
    record {
      instant = i;
      roles = fun_ext (λ k. ap (λ (x : ℕ). roles_of x k) r ∙ bit_none k);
      waiting = λ k e p b. ap (λ (x : List ℕ). waiting_of x k e p) w ∙ waiting_none k e p b;
    }

-- the state is handed on
handed : (a b : Lent) (st : State) → HandedOn a b → SameState (state_in a) st → SameState (state_in b) st
handed a b st h s =
    record {
      instant = h.instant ∙ s.instant;
      roles = ap roles_of h.roles ∙ s.roles;
      waiting = λ k e p m. ap (λ (w : List ℕ). waiting_of w k e p) h.waiting ∙ s.waiting k e p m;
    }

-- the events of its instant 1
abbrev three : List Prioritized
three = (4 ∶ enable 0) ∷ (6 ∶ enable 2) ∷ (6 ∶ disable 2) ∷ []

-- what is found in them
record FirstTwo (before after : ℕ → Lent) : Type 0 where
  no_events : events_of (after 0).events ≡ among []
  three_events : events_of (after 1).events ≡ among three
  roles_before : roles_of (before 1).roles ≡ roles_in []
  roles_after : roles_of (after 1).roles ≡ roles_in (0 ∷ [])

-- an accepted step of instant t is a step with the tape's requests
stepped : (t : ℕ) → t < 2 → (l a : Lent) → Outcome worked (asked t) l pass a → Step (sheet_in worked) (stream_of input.requests t) (state_in l) (events_of a.events) (state_in a)
stepped t b l a o = subst (λ (q : Requests). Step (sheet_in worked) q (state_in l) (events_of a.events) (state_in a)) (lent_asks t b) (o.passed refl).step

minute_0 : (l a : Lent) → SameState (state_in l) (state_of 0 [] []) → Outcome worked (asked 0) l pass a → (events_of a.events ≡ among []) × SameState (state_in a) (state_of 1 [] [])
minute_0 l a s o = (is_worked.minutes 0 (omega arith)).same (state_in l) s (events_of a.events) (state_in a) (stepped 0 (omega arith) l a o)

first_two : (tables : ℕ → Rules) (before after : ℕ → Lent) → Steps 2 worked tables asked before after → FirstTwo before after
first_two tables before after steps =
    let ok = under_sheet 2 worked tables asked before after steps in
    let f : FreshLent (before 0) = steps.fresh in
    let x = minute_0 (before 0) (after 0) (zeros (before 0) 0 f.instant f.roles f.waiting) (ok 0 (omega arith)) in
    let s : SameState (state_in (before 1)) (state_of 1 [] []) = handed (after 0) (before 1) (state_of 1 [] []) (steps.on 0 (omega arith)) x.1 in
    let y = (is_worked.minutes 1 (omega arith)).same (state_in (before 1)) s (events_of (after 1).events) (state_in (after 1)) (stepped 1 (omega arith) (before 1) (after 1) (ok 1 (omega arith))) in
    record { no_events = x.0; three_events = y.0; roles_before = s.roles; roles_after = y.1.roles }

-- they differ in their events
pub not_one_set : (tables : ℕ → Rules) (before after : ℕ → Lent) → Steps 2 worked tables asked before after → (after 0).events ≡ (after 1).events → ⊥
unfolding first any_below
not_one_set tables before after steps e =
    let x : FirstTwo before after = first_two tables before after steps in
    let f : among [] ≡ among three = sym x.no_events ∙ (ap events_of e ∙ x.three_events) in
    false≢true (ap (λ (S : Events). S (enable 0) 4) f)

-- the second changes the roles
pub not_same_roles : (tables : ℕ → Rules) (before after : ℕ → Lent) → Steps 2 worked tables asked before after → (before 1).roles ≡ (after 1).roles → ⊥
unfolding roles_in any_below
not_same_roles tables before after steps e =
    let x : FirstTwo before after = first_two tables before after steps in
    let f : roles_in [] ≡ roles_in (0 ∷ []) = sym x.roles_before ∙ (ap roles_of e ∙ x.roles_after) in
    false≢true (ap (λ (S : Roles). S 0) f)

-- and the count of events with a nonblocked member is 0, then 2
pub counts_are : (tables : ℕ → Rules) (before after : ℕ → Lent) → Steps 2 worked tables asked before after
    → (count_in (events_of (after 0).events) ≡ 0) × (count_in (events_of (after 1).events) ≡ 2)
unfolding count_below nonblocked blocked blocks conf first any_below
counts_are tables before after steps =
    let x : FirstTwo before after = first_two tables before after steps in
    (ap count_in x.no_events, ap count_in x.three_events)

-- ---- such a run is there

-- no request at instant 0 and one at 1, which is within its limits
few : (t : ℕ) → t < 2 → (asked t).count ≤ REQUESTS
few = let e : (asked 0).count ≡ 0 = refl in let f : (asked 1).count ≡ 1 = refl in two (λ t. (asked t).count ≤ REQUESTS) (omega arith) (omega arith)

all_fit : (t : ℕ) → t < 2 → AllFit 3 (asked t)
unfolding all_below request_fits
all_fit = two (λ t. AllFit 3 (asked t)) (all_elim (asked 0).count (λ i. fits 3 ((asked 0).request i)) refl) (all_elim (asked 1).count (λ i. fits 3 ((asked 1).request i)) refl)

-- every step in it is accepted
accepted : (t : ℕ) → t < 2 → (l : Lent) → l.instant ≤ LAST_INSTANT → length l.waiting ≡ WAITING_NUMBERS → length l.events ≡ EVENTS → judge_step worked (asked t) l ≡ pass
accepted t b l i w e =
    let good = reading_good worked_sheet no_periodics no_triggers _ _ _ is_worked.read in
    let sizes = reading_sizes worked_sheet no_periodics no_triggers _ _ _ is_worked.read in
    (step_passes_says worked (asked t) l).1 (
      record {
        periodics = sizes.0;
        triggers = sizes.1;
        waiting = w;
        events = e;
        instant = i;
        requests = few t b;
        rows = good.0;
      },
      good.1,
      all_fit t b,
    )

-- the lent state before instant t, where no role is enabled and nothing waits
abbrev quiet : ℕ → Lent
quiet t = lent t 0 (replicate WAITING_NUMBERS 0) (replicate EVENTS 0)

-- an accepted step from there
from_quiet : (t : ℕ) → t < 2 → (a : Lent) × Outcome worked (asked t) (quiet t) pass a
from_quiet t b =
    let narrow : Narrow 16 (replicate WAITING_NUMBERS 0) = λ i l. subst (λ (x : ℕ). x < 2 ^ 16) (sym (get_or-replicate {A = ℕ} WAITING_NUMBERS i 0 0 (omega (arith, l, length-replicate {A = ℕ} WAITING_NUMBERS 0)))) (omega arith) in
    let o = step_total worked (asked t) (quiet t) (omega arith) narrow in
    let p : o.0.0 ≡ pass = o.1.judged ∙ accepted t b (quiet t) (omega arith) (length-replicate {A = ℕ} WAITING_NUMBERS 0) (length-replicate {A = ℕ} EVENTS 0) in
    (o.0.1, subst (λ (v : Verdict). Outcome worked (asked t) (quiet t) v o.0.1) p o.1)

-- one thing at 0, and another from 1 on
at : {A : Type 0} → A → A → ℕ → A
at a b zero = a
at a b (suc t) = b

-- THE RUN of the first two minutes
pub minutes_run : (before : ℕ → Lent) × (after : ℕ → Lent) × Steps 2 worked (λ t. worked) asked before after
unfolding at roles_in rows_in any_below
minutes_run =
    let x = from_quiet 0 (omega arith) in
    let y = from_quiet 1 (omega arith) in
    let s = minute_0 (quiet 0) x.0 (zeros (quiet 0) 0 refl refl refl) x.1 in
    let w : length x.0.waiting ≡ WAITING_NUMBERS = (x.1.passed refl).waiting_size in
    let on : HandedOn x.0 (quiet 1)
    = record {
      instant = sym s.1.instant;
      roles = sym (roles_one x.0.roles 0 (λ r. ap (λ (f : Roles). f r) s.1.roles ∙ sym (bit_none r)));
      waiting = sym (waiting_one x.0.waiting (replicate WAITING_NUMBERS 0) w (length-replicate {A = ℕ} WAITING_NUMBERS 0) (λ k e p l. s.1.waiting k e p l ∙ sym (waiting_none k e p l)));
    } in (
      at (quiet 0) (quiet 1),
      at x.0 y.0,
      record {
        fresh = record { instant = refl; roles = refl; waiting = refl };
        one_sheet = λ t l. rules_itself worked;
        ok = two (λ t. Outcome worked (asked t) (at (quiet 0) (quiet 1) t) pass (at x.0 y.0 t)) x.1 y.1;
        on = λ t. elim t as (λ k. suc k < 2 → HandedOn (at x.0 y.0 k) (at (quiet 0) (quiet 1) (suc k))) [ zero ↦ λ l. on | suc u ↦ λ l. absurd (omega (arith, l)) ];
      },
    )
