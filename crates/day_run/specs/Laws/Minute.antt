-- One minute of a run: its step is never refused, its events are those of the paper's model, and what stands before an instant stands before the next.
-- Assumes nothing.
use Rattle.std.specs.Prelude.{◌≡◌, refl, List, ℕ, suc, ◌+◌, ◌≤◌, length, drop, replicate}
use Rattle.std.proofs.Common.{sym, ap, ◌∙◌, subst, subst₂, add-one, arith}
use Rattle.std.proofs.Math.Path.{fun_ext}
use Rattle.theory.specs.Numbers.{EVENTS, LAST_INSTANT, WAITING_NUMBERS}
use Rattle.theory.specs.Sheet.{Sheet}
use Rattle.theory.specs.Events.{Events}
use Rattle.theory.specs.Instant.{Requests}
use Rattle.theory.specs.Model.{Trace}
use Rattle.theory.specs.Box.{State, Step, SameState}
use Rattle.theory.proofs.Laws.Run.{step_same}
use Rattle.text.specs.Lines.{Lines, lines}
use Rattle.tables.specs.Buffers.{roles_of, events_of}
use Rattle.tables.specs.Asked.{Asked, flat, asks}
use Rattle.tables.specs.Lent.{Rules, sheet_in, Lent, lent, state_in}
use Rattle.masks.specs.Laws.Bits.{bit_none}
use Rattle.masks.specs.Laws.Held.{waiting_none}
use Rattle.requests.specs.Laws.{requests_fit}
use Rattle.step.specs.Outcome.{Stepped}
use Rattle.step.proofs.Laws.Passes.{step_accepts}
use Rattle.tape.specs.Tape.{asks_in}
use Rattle.tape_batches.specs.Batch.{takes, rest, none_yet}
use Rattle.day_minute.specs.declared.Minute.{Minute}
use Rattle.day_minute.specs.Minute.{batch_at, rest_at, MinuteOutcome}
use Rattle.day_run.specs.Run.{GoodInput, RunOf, ModelOf, Cursor, Standing}
use Rattle.day_run.specs.Laws.Model.{good_sheet, run_of}
use Rattle.day_run.specs.Laws.Cursor.{Taken, cursor_start, cursor_next}
use Rattle.answers.specs.Answers.{pass}

module _ (R : Rules) (tape : List ℕ) (ok : GoodInput R tape) where
  abbrev sh : Sheet
  sh = sheet_in R

  -- before the first instant, with any content of the events buffer
  pub standing_start : (e : List ℕ) → length e ≡ EVENTS → Standing R tape 0 (lent 0 0 (replicate WAITING_NUMBERS 0) e) 0
  standing_start e size =
      record {
        instant = refl;
        waiting = refl;
        events = size;
        cursor = cursor_start R.counts.roles (lines tape) ok.tape_fine;
        same = λ state events run.
            record {
              instant = sym run.fresh.instant;
              roles = fun_ext (λ r. bit_none r ∙ sym (run.fresh.roles r));
              waiting = λ k v q h. waiting_none k v q h ∙ sym (run.fresh.waiting k v q h);
            };
      }

  -- THE ROLES before an instant are the paper's
  pub standing_roles : (n : ℕ) (l : Lent) (at : ℕ) → Standing R tape n l at → (tr : Trace) → ModelOf R tape tr → roles_of l.roles ≡ tr.ST n
  standing_roles n l at s tr m =
      let x = run_of R tape ok n in
      (s.same x.0 x.1 x.2).roles ∙ (x.3 tr m).same_roles n (omega arith)

  module _ (n : ℕ) (served : n ≤ LAST_INSTANT) (l : Lent) (at : ℕ) (s : Standing R tape n l at) (r : Minute) (a : Lent) (m : MinuteOutcome R tape at l r a) where
    -- the requests that are taken
    abbrev q : Asked
    q = flat (batch_at tape at l).asked (batch_at tape at l).count

    took : Taken R.counts.roles n (lines tape) (batch_at tape at l) (rest_at tape at l)
    took =
        subst (λ (k : ℕ). Taken R.counts.roles n (lines tape) (takes k (lines (drop at tape)) (none_yet at)) (rest k (lines (drop at tape)) 0)) (sym s.instant)
        (cursor_next R.counts.roles n (lines tape) (lines (drop at tape)) at s.cursor)

    -- the step is not refused
    pub minute_passes : r.verdict ≡ pass
    minute_passes =
        m.step.judged
        ∙ step_accepts R q l
        (record {
          lengths = record { periodics = ok.periodics; triggers = ok.triggers; waiting = s.waiting; events = s.events };
          served = omega (arith, s.instant, served);
          few = took.few;
          tables = ok.tables;
          requests = requests_fit R.counts.roles q took.fit;
        })

    stepped : Stepped R q l a
    stepped = m.step.passed minute_passes

    same_asked_lem : asks q ≡ asks_in (lines tape) n
    same_asked_lem = fun_ext (λ d. fun_ext (λ e. fun_ext (λ v. took.asked d e v)))

    -- as in any run
    as_run : (state : ℕ → State) (events : ℕ → Events) → RunOf R tape (suc n) state events → (events_of a.events ≡ events n) × SameState (state_in a) (state (suc n))
    as_run state events run =
        let x : Step sh (asks_in (lines tape) n) (state_in l) (events_of a.events) (state_in a)
        = subst (λ (z : Requests). Step sh z (state_in l) (events_of a.events) (state_in a)) same_asked_lem stepped.step in
        let so_far : RunOf R tape n state events = record { fresh = run.fresh; step = λ t k. run.step t (omega (arith, k)) } in
        let g = good_sheet R tape ok in
        step_same sh (asks_in (lines tape) n) (state_in l) (state n) (s.same state events so_far) g.0 g.1
        (events_of a.events) (events n) (state_in a) (state (suc n)) x (run.step n (omega arith))

    -- THE EVENTS of the minute are the paper's
    pub minute_events : (tr : Trace) → ModelOf R tape tr → events_of a.events ≡ tr.EV n
    minute_events tr k =
        let x = run_of R tape ok (suc n) in
        (as_run x.0 x.1 x.2).0 ∙ (x.3 tr k).same_events n (omega arith)

    -- THE LAW: before the next instant
    pub standing_next : Standing R tape (n + 1) a r.next
    standing_next =
        record {
          instant = stepped.step.instant ∙ omega (arith, s.instant);
          waiting = stepped.waiting_size;
          events = stepped.events_size;
          cursor = subst₂ (λ (i : ℕ) (x : Lines). Cursor R.counts.roles i (lines tape) x) (sym (add-one n)) (sym m.goes_on) took.cursor;
          same = λ state events run.
              subst (λ (i : ℕ). SameState (state_in a) (state i)) (sym (add-one n))
              (as_run state events (subst (λ (i : ℕ). RunOf R tape i state events) (add-one n) run)).1;
        }

    -- and the roles after it, as they come back
    pub minute_roles : (tr : Trace) → ModelOf R tape tr → roles_of r.enabled ≡ tr.ST (suc n)
    minute_roles tr k = ap roles_of m.roles.0 ∙ (standing_roles (n + 1) a r.next standing_next tr k ∙ ap tr.ST (add-one n))
