-- Any run of accepted steps from the fresh state is the paper's: what was lent before each step, and after the last, are the states of a run of the model.
-- Assumes nothing.
use Rattle.std.specs.Prelude.{◌≡◌}
use Rattle.std.proofs.Math.Path.{refl, ap, fun_ext, subst}
use Rattle.std.proofs.Common.{sym, ◌∙◌, arith}
use Rattle.std.proofs.Math.Logic.{by_cases}
use Rattle.std.proofs.Math.Bool.{true}
use mathlib.Core.List.{List}
use Prim.Native.Nat.{ℕ, zero, suc, ◌<◌}
use Rattle.std.proofs.Math.Decide.{dec_lt}
use Rattle.theory.specs.Sheet.{Sheet, GoodOrder}
use Rattle.theory.specs.Instant.{Requests, request_fits}
use Rattle.theory.specs.Graph.{NoLoop}
use Rattle.theory.specs.Model.{Stream, no_roles}
use Rattle.theory.specs.Box.{State, Step, Run, Within}
use Rattle.theory.proofs.Laws.Exists.{is_only}
use Rattle.theory.proofs.Laws.Run.{canonical_run}
use Rattle.tables.specs.Layout.{sheet_of}
use Rattle.tables.specs.Buffers.{roles_of, events_of, waiting_of}
use Rattle.tables.specs.Asked.{Asked, asks}
use Rattle.tables.specs.Lent.{Rules, sheet_in, Lent, state_in}
use Rattle.table_judge.proofs.Laws.{judge_passes}
use Rattle.masks.specs.Laws.Bits.{bit_none}
use Rattle.masks.specs.Laws.Held.{waiting_none}
use Rattle.requests.specs.Laws.{asks_elim, requests_pass}
use Rattle.step.specs.Outcome.{Outcome}
use Rattle.step.proofs.Laws.Passes.{StepAccepted, step_passes}
use Rattle.step.proofs.Laws.Used.{outcome_used}
use Rattle.runs.specs.Runs.{HandedOn, Steps, GoesOn, IsPapers}
use Rattle.answers.specs.Answers.{pass}

-- the same state, whatever the events buffers hold
handed_state : (a b : Lent) → HandedOn a b → state_in b ≡ state_in a
handed_state a b h = λ i. record { instant = h.instant i; roles = roles_of (h.roles i); waiting = waiting_of (h.waiting i) }

-- each step is one with the tables of the sheet itself
pub under_sheet : (n : ℕ) (R : Rules) (tables : ℕ → Rules) (asked : ℕ → Asked) (before after : ℕ → Lent) → Steps n R tables asked before after → (t : ℕ) → t < n
    → Outcome R (asked t) (before t) pass (after t)
under_sheet n R tables asked before after steps t l = (outcome_used R (tables t) (steps.one_sheet t l) (asked t) (before t) pass (after t)).1 (steps.ok t l)

module _ (n : ℕ) (R : Rules) (tables : ℕ → Rules) (asked : ℕ → Asked) (before after : ℕ → Lent) (steps : Steps (suc n) R tables asked before after) where
  abbrev sh : Sheet
  sh = sheet_in R

  passes : (t : ℕ) → t < suc n → Outcome R (asked t) (before t) pass (after t)
  passes = under_sheet (suc n) R tables asked before after steps

  -- what each step tested
  accepted : (t : ℕ) → t < suc n → StepAccepted R (asked t) (before t)
  accepted t l = step_passes R (asked t) (before t) (sym (passes t l).judged)

  good : GoodOrder sh × NoLoop sh
  good = judge_passes sh (accepted 0 (omega arith)).tables

  -- the state before instant t, and after the last
  state : ℕ → State
  state zero = state_in (before 0)
  state (suc t) = state_in (after t)

  state_before_lem : (t : ℕ) → t < suc n → state_in (before t) ≡ state t
  unfolding state
  state_before_lem zero l = refl
  state_before_lem (suc t) l = handed_state (after t) (before (suc t)) (steps.on t l)

  module _ (RQ : Stream) (goes : GoesOn (suc n) R asked RQ) where
    same_asked_lem : (t : ℕ) → t < suc n → RQ t ≡ asks (asked t)
    same_asked_lem t l = fun_ext (λ d. fun_ext (λ e. fun_ext (λ p. goes.asked_first t d e p l)))

    all_within : Within sh RQ
    unfolding sheet_of
    all_within t d e p h =
        by_cases (dec_lt t (suc n))
        (λ (l : t < suc n).
        let r = asks_elim (asked t) d e p (sym (goes.asked_first t d e p l) ∙ h) in
        let k : request_fits R.counts.roles ((asked t).request r.0).delay ((asked t).request r.0).event ((asked t).request r.0).priority ≡ true
        = requests_pass R.counts.roles (asked t) (accepted t l).requests r.0 r.1 in
        is_only (request_fits R.counts.roles d) ((asked t).request r.0).event ((asked t).request r.0).priority e p r.3
        (subst (λ (x : ℕ). request_fits R.counts.roles x ((asked t).request r.0).event ((asked t).request r.0).priority ≡ true) r.2 k))
        (λ (l : ¬ (t < suc n)). goes.within t d e p (omega arith) h)

    run : Run (suc n) no_roles sh RQ state (λ t. events_of (after t).events)
    unfolding state
    run =
        record {
          fresh = record {
            instant = steps.fresh.instant;
            roles = λ r. ap (λ (x : ℕ). roles_of x r) steps.fresh.roles ∙ bit_none r;
            waiting = λ k e p l. ap (λ (w : List ℕ). waiting_of w k e p) steps.fresh.waiting ∙ waiting_none k e p l;
          };
          step = λ t l.
              let x : Step sh (asks (asked t)) (state_in (before t)) (events_of (after t).events) (state_in (after t)) = ((passes t l).passed refl).step in
              let y : Step sh (RQ t) (state_in (before t)) (events_of (after t).events) (state_in (after t))
              = subst (λ (q : Requests). Step sh q (state_in (before t)) (events_of (after t).events) (state_in (after t))) (sym (same_asked_lem t l)) x in
              subst (λ (s : State). Step sh (RQ t) s (events_of (after t).events) (state_in (after t))) (state_before_lem t l) y;
        }

    -- THE THEOREM
    pub run_is_papers : IsPapers (suc n) R before after RQ
    unfolding state
    run_is_papers =
        let c = canonical_run sh good.0 good.1 (suc n) RQ state (λ t. events_of (after t).events) run all_within in
        record {
          model = c.0;
          canonical = c.1;
          only = c.2;
          agrees = record {
            events = λ t l. c.3.same_events t l;
            roles_before = λ t l. ap (λ (s : State). s.roles) (state_before_lem t l) ∙ c.3.same_roles t (omega arith);
            roles_after = λ t l. c.3.same_roles (suc t) (omega arith);
          };
        }
