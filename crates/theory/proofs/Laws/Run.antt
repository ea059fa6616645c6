-- Demand 2 on the model's level: any run of the box from the fresh state is the paper's. For a sheet in good order without a loop and requests within their limits there is
-- exactly one execution model over all instants, and the run agrees with it in every event and every role.
-- Assumes nothing.
use Rattle.std.specs.Prelude.{◌≡◌, Bool, not, ◌&&◌, ◌||◌}
use Rattle.std.proofs.Math.Path.{refl, ap, ap₂, fun_ext}
use Rattle.std.proofs.Common.{sym, ◌∙◌, subst, subst₂, ⊎_elim, arith}
use Prim.Native.Nat.{ℕ, zero, suc, ◌+◌, ◌-◌, ◌≤◌, ◌<◌}
use Rattle.std.proofs.Math.Dec.{eqb}
use Rattle.theory.specs.Numbers.{WAITING_ROWS}
use Rattle.theory.specs.Below.{any_below, ExactlyOne}
use Rattle.theory.specs.Events.{Events, Roles}
use Rattle.theory.specs.Sheet.{Sheet, GoodOrder, due}
use Rattle.theory.specs.Instant.{Requests, Solves, waits_for, roles_after}
use Rattle.theory.specs.Graph.{NoLoop}
use Rattle.theory.specs.Model.{Stream, Trace, ExecutionModel, no_roles}
use Rattle.theory.specs.Box.{State, row, givens, row_after, Step, Fresh, Run, Within, SameState, Follows, trace_of}
use Rattle.theory.proofs.Laws.Below.{below_cases, any_same}
use Rattle.theory.proofs.Laws.Exists.{none}
use Rattle.theory.proofs.Laws.OneSolution.{good_trigger, one_solution}
use Rattle.theory.proofs.Laws.History.{waits_from, waits, givens_at, solves_caused, caused_solves}
use Rattle.theory.proofs.Laws.Rows.{ShortDelays, rows_stand}

-- ---- a box that steps on for ever is an execution model

module _ (start : Roles) (sh : Sheet) (RQ : Stream) (short : ShortDelays sh) (within : Within sh RQ) (state : ℕ → State) (events : ℕ → Events)
    (fresh : Fresh start (state 0)) (step : (t : ℕ) → Step sh (RQ t) (state t) (events t) (state (suc t))) where
  -- the box's givens are those of the trace
  givens_are : (t : ℕ) → givens sh (RQ t) (state t) ≡ givens_at sh RQ (trace_of state events) t
  unfolding givens givens_at
  givens_are t =
      let i = rows_stand start sh RQ short within state events fresh step t in
      let z : (state t).instant ≡ t = i.0 in
      fun_ext (λ e. fun_ext (λ p. rw z (ap (λ (w : Bool). due sh t e p || (w || RQ t 0 e p)) (i.1 t e p (omega arith) (omega arith)))))

  steps_model : ExecutionModel start sh RQ (trace_of state events)
  steps_model =
      record {
        starts = fresh.roles;
        roles = λ t r. (step t).roles r;
        events = solves_caused sh RQ (trace_of state events) (λ t. subst (λ (G : Events). Solves sh (state t).roles G (events t)) (givens_are t) (step t).solves);
      }

-- ---- two execution models are the same

-- the traces agree in the events below t and the roles up to t
record Agree (t : ℕ) (A B : Trace) : Type 0 where
  events : (s : ℕ) → s < t → A.EV s ≡ B.EV s
  roles : (s : ℕ) → s ≤ t → A.ST s ≡ B.ST s

module _ (sh : Sheet) (good : GoodOrder sh) (nl : NoLoop sh) where
  short_delays : ShortDelays sh
  short_delays i l = (good_trigger sh good i l).delay

  module _ (start : Roles) (RQ : Stream) (A B : Trace) (a : ExecutionModel start sh RQ A) (b : ExecutionModel start sh RQ B) where
    -- the same past gives the same
    givens_agree : (t : ℕ) → Agree t A B → givens_at sh RQ A t ≡ givens_at sh RQ B t
    unfolding givens_at waits
    givens_agree t g =
        fun_ext (λ e. fun_ext (λ p.
        ap (λ (w : Bool). due sh t e p || (w || RQ t 0 e p))
        (any_same t (λ s. waits_from sh RQ A s t e p) (λ s. waits_from sh RQ B s t e p)
        (λ s l. ap₂ (λ (st : Roles) (S : Events). waits_for sh (RQ s) st S (t - s) e p) (g.roles s (omega arith)) (g.events s l)))))

    events_agree : (t : ℕ) → Agree t A B → A.EV t ≡ B.EV t
    events_agree t g =
        let one = one_solution sh good nl (B.ST t) (givens_at sh RQ B t) in
        let x : Solves sh (B.ST t) (givens_at sh RQ B t) (A.EV t)
        = subst₂ (λ (st : Roles) (G : Events). Solves sh st G (A.EV t)) (g.roles t (omega arith)) (givens_agree t g) (caused_solves sh RQ A a.events t) in
        one.2 (A.EV t) x ∙ sym (one.2 (B.EV t) (caused_solves sh RQ B b.events t))

    models_agree : (t : ℕ) → Agree t A B
    models_agree zero =
        record {
          events = λ s m. absurd (omega arith);
          roles = λ s m. let z : s ≡ 0 = omega arith in rw z (fun_ext (λ r. a.starts r ∙ sym (b.starts r)));
        }
    models_agree (suc t) =
        let g : Agree t A B = models_agree t in
        let ev : A.EV t ≡ B.EV t = events_agree t g in
        let st : A.ST t ≡ B.ST t = g.roles t (omega arith) in
        record {
          events = λ s m. ⊎_elim (λ (z : s ≡ t). rw z ev) (λ (z : s < t). g.events s z) (below_cases m);
          roles = λ s m.
              ⊎_elim
              (λ (z : s ≡ suc t). rw z (fun_ext (λ r. a.roles t r ∙ (ap₂ (λ (x : Roles) (S : Events). roles_after x S r) st ev ∙ sym (b.roles t r)))))
              (λ (z : s < suc t). g.roles s (omega arith))
              (below_cases {n = suc t} (omega arith));
        }

    pub one_model : A ≡ B
    one_model =
        let ev : A.EV ≡ B.EV = fun_ext (λ t. (models_agree (suc t)).events t (omega arith)) in
        let st : A.ST ≡ B.ST = fun_ext (λ t. (models_agree t).roles t (omega arith)) in
        λ i. record { EV = ev i; ST = st i }

  -- ---- a box that steps on for ever is there

  answer : Requests → State → Events
  answer asks st = (one_solution sh good nl st.roles (givens sh asks st)).0

  after_step : Requests → State → State
  after_step asks st = record { instant = suc st.instant; roles = roles_after st.roles (answer asks st); waiting = row_after sh asks st (answer asks st) }

  module _ (start : Roles) (RQ : Stream) where
    states : ℕ → State
    states zero = record { instant = 0; roles = start; waiting = λ k. none }
    states (suc t) = after_step (RQ t) (states t)

    states_fresh : Fresh start (states 0)
    unfolding states
    states_fresh = record { instant = refl; roles = λ r. refl; waiting = λ k e p l. refl }

    states_step : (t : ℕ) → Step sh (RQ t) (states t) (answer (RQ t) (states t)) (states (suc t))
    unfolding states after_step answer
    states_step t =
        record {
          solves = (one_solution sh good nl (states t).roles (givens sh (RQ t) (states t))).1;
          instant = refl;
          roles = λ r. refl;
          waiting = λ k e p l. refl;
        }

    abbrev model : Trace
    model = trace_of states (λ t. answer (RQ t) (states t))

    model_is : Within sh RQ → ExecutionModel start sh RQ model
    model_is within = steps_model start sh RQ short_delays within states (λ t. answer (RQ t) (states t)) states_fresh states_step

    -- THE PAPER'S THEOREM 4.1, with document 01's loop test for the paper's: exactly one execution model that starts so
    pub exactly_one_model : Within sh RQ → ExactlyOne (ExecutionModel start sh RQ)
    exactly_one_model within = (model, model_is within, λ other o. one_model start RQ other model o (model_is within))

-- ---- a step is determined by its state

module _ (sh : Sheet) (asks : Requests) (a b : State) (s : SameState a b) where
  givens_same : givens sh asks a ≡ givens sh asks b
  unfolding givens
  givens_same =
      fun_ext (λ e. fun_ext (λ p.
      rw s.instant (ap (λ (w : Bool). due sh b.instant e p || (w || asks 0 e p)) (s.waiting (row b.instant) e p (omega arith)))))

  row_same : (S : Events) (k e p : ℕ) → k < WAITING_ROWS → row_after sh asks a S k e p ≡ row_after sh asks b S k e p
  unfolding row_after
  row_same S k e p l =
      rw (s.instant, s.roles)
      (ap (λ (w : Bool). (not (eqb k (row b.instant)) && w) || any_below WAITING_ROWS (λ d. eqb (row (b.instant + d)) k && waits_for sh asks b.roles S d e p))
      (s.waiting k e p l))

  -- one step from the same state has the same events and ends in the same state
  pub step_same : GoodOrder sh → NoLoop sh → (S T : Events) (a' b' : State) → Step sh asks a S a' → Step sh asks b T b' → (S ≡ T) × SameState a' b'
  step_same good nl S T a' b' x y =
      let one = one_solution sh good nl b.roles (givens sh asks b) in
      let z : Solves sh b.roles (givens sh asks b) S
      = subst₂ (λ (st : Roles) (G : Events). Solves sh st G S) s.roles givens_same x.solves in
      let e : S ≡ T = one.2 S z ∙ sym (one.2 T y.solves) in (
        e,
        record {
          instant = x.instant ∙ (ap suc s.instant ∙ sym y.instant);
          roles = fun_ext (λ r. x.roles r ∙ (ap₂ (λ (st : Roles) (X : Events). roles_after st X r) s.roles e ∙ sym (y.roles r)));
          waiting = λ k d p l. x.waiting k d p l ∙ (row_same S k d p l ∙ (ap (λ (X : Events). row_after sh asks b X k d p) e ∙ sym (y.waiting k d p l)));
        },
      )

-- ---- THE THEOREM

-- A step is there from every state, with any requests: some events and a next state, and any two are the same.
pub one_step : (sh : Sheet) → GoodOrder sh → NoLoop sh → (asks : Requests) (st : State)
    → (S : Events) × (st' : State) × Step sh asks st S st' × ((T : Events) (other : State) → Step sh asks st T other → (T ≡ S) × SameState other st')
unfolding after_step answer
one_step sh good nl asks st =
    let S : Events = answer sh good nl asks st in
    let x : Step sh asks st S (after_step sh good nl asks st)
    = record {
      solves = (one_solution sh good nl st.roles (givens sh asks st)).1;
      instant = refl;
      roles = λ r. refl;
      waiting = λ k e p l. refl;
    } in
    let same : SameState st st = record { instant = refl; roles = refl; waiting = λ k e p l. refl } in
    (S, after_step sh good nl asks st, x, λ T other y. step_same sh asks st st same good nl T S other (after_step sh good nl asks st) y x)

module _ (sh : Sheet) (good : GoodOrder sh) (nl : NoLoop sh) (n : ℕ) (start : Roles) (RQ : Stream) (state : ℕ → State) (events : ℕ → Events) (run : Run n start sh RQ state events) where
  abbrev ours : ℕ → State
  ours = states sh good nl start RQ

  one_more : (t : ℕ) → t < n → SameState (state t) (ours t) → (events t ≡ answer sh good nl (RQ t) (ours t)) × SameState (state (suc t)) (ours (suc t))
  one_more t l s =
      step_same sh (RQ t) (state t) (ours t) s good nl (events t) (answer sh good nl (RQ t) (ours t)) (state (suc t)) (ours (suc t)) (run.step t l) (states_step sh good nl start RQ t)

  same_states : (t : ℕ) → t ≤ n → SameState (state t) (ours t)
  unfolding states
  same_states zero l = record { instant = run.fresh.instant; roles = fun_ext run.fresh.roles; waiting = run.fresh.waiting }
  same_states (suc t) l = (one_more t (omega arith) (same_states t (omega arith))).1

  -- any run is the paper's one execution model, as far as it goes
  pub run_is_paper : Within sh RQ → (tr : Trace) × ExecutionModel start sh RQ tr × ((other : Trace) → ExecutionModel start sh RQ other → other ≡ tr) × Follows n state events tr
  run_is_paper within =
      let m : ExecutionModel start sh RQ (model sh good nl start RQ) = model_is sh good nl start RQ within in (
        model sh good nl start RQ,
        m,
        λ other o. one_model sh good nl start RQ other (model sh good nl start RQ) o m,
        record {
          same_events = λ t l. (one_more t l (same_states t (omega arith))).0;
          same_roles = λ t l. (same_states t l).roles;
        },
      )

-- Demand 2's run: from the empty start it is the paper's one canonical execution model.
pub canonical_run : (sh : Sheet) → GoodOrder sh → NoLoop sh → (n : ℕ) (RQ : Stream) (state : ℕ → State) (events : ℕ → Events) → Run n no_roles sh RQ state events → Within sh RQ
    → (tr : Trace) × ExecutionModel no_roles sh RQ tr × ((other : Trace) → ExecutionModel no_roles sh RQ other → other ≡ tr) × Follows n state events tr
canonical_run sh good nl n RQ state events run = run_is_paper sh good nl n no_roles RQ state events run

-- and such a run is there, of any length
pub run_exists : (sh : Sheet) → GoodOrder sh → NoLoop sh → (n : ℕ) (start : Roles) (RQ : Stream) → (state : ℕ → State) × (events : ℕ → Events) × Run n start sh RQ state events
run_exists sh good nl n start RQ = (
  states sh good nl start RQ,
  (λ t. answer sh good nl (RQ t) (states sh good nl start RQ t)),
  record { fresh = states_fresh sh good nl start RQ; step = λ t l. states_step sh good nl start RQ t },
)
