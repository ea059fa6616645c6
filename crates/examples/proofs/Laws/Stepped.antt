-- One instant of a day: where its tests pass, there is a step with the events, the roles and the waiting events that were found, and no other.
-- Assumes nothing.
use Rattle.std.specs.Prelude.{◌≡◌, refl, ◌⊎◌, ◌&&◌, length, get_or}
use Rattle.std.proofs.Math.Path.{sym, subst}
use Rattle.std.proofs.Common.{◌∙◌, arith}
use Rattle.std.proofs.Math.Logic.{⊎_elim}
use Rattle.std.proofs.Math.Bool.{Bool, true, false, not, beq}
use mathlib.Core.List.{List}
use Prim.Native.Nat.{ℕ, suc, ◌+◌, ◌≤◌, ◌<◌}
use Rattle.std.proofs.Math.Dec.{ltb, eqb}
use borrow.Author.Tests.{ltb-true, ltb-false, lt-ltb, eqb-true, eq-eqb}
use Rattle.theory.specs.Numbers.{ROLES, EVENTS, WAITING_ROWS}
use Rattle.theory.specs.Below.{any_below, all_below}
use Rattle.theory.specs.Events.{Events, disable, enable, nonblocked, Part}
use Rattle.theory.specs.Sheet.{Sheet, GoodOrder, row_due, due}
use Rattle.theory.specs.Instant.{Requests, allows, met, ready, waits_for, roles_after}
use Rattle.theory.specs.Graph.{NoLoop}
use Rattle.theory.specs.Model.{Stream}
use Rattle.theory.specs.Box.{State, row, givens, row_after, Step}
use Rattle.theory.proofs.Laws.Tests.{and_left, and_right, and_both, or_cases, test, is_false, bool_ext}
use Rattle.theory.proofs.Laws.Below.{any_elim, all_elim}
use Rattle.theory.proofs.Laws.OneSolution.{one_solution}
use Rattle.theory.proofs.Laws.History.{Sent, waits_later, waits_cases}
use Rattle.theory.proofs.Laws.Run.{step_same}
use Rattle.theory.proofs.Laws.Sentences.{nonblocked_says, after_keeps, due_says, givens_says}
use Rattle.examples.specs.Written.{Prioritized, among, Requested, stream_of, Waits, roles_in, rows_in, state_of}
use Rattle.examples.specs.Day.{Minute, OneStep}
use Rattle.examples.proofs.Laws.Passes.{◌⇒◌, each_of, each_waiting, each_asked, self_caused, givens_held, roles_found, waits_found, minute_found}
use Rattle.examples.proofs.Laws.Listed.{passes_then, beq_true, among_part, roles_part, rows_part, asked_part}
use Rattle.examples.proofs.Laws.Solved.{caused_least}

module _ (sh : Sheet) (qs : List Requested) (t : ℕ) (rs : List ℕ) (ws : List Waits) where
  abbrev before : State
  before = state_of t rs ws

  -- what is asked for at the instant
  abbrev asks : Requests
  asks = stream_of qs t

  givens_held_lem : (S : Events) → givens_held sh qs t ws S ≡ true → Part (givens sh asks before) S
  unfolding givens_held
  givens_held_lem S h e p g =
      let dueIn : ℕ → Bool = λ i. row_due (sh.periodic i) t ⇒ S (sh.periodic i).event (sh.periodic i).priority in
      let waitIn : ℕ → Events = λ k e p. eqb k (row t) ⇒ S e p in
      let askIn : Stream = λ u d e p. (eqb u t && eqb d 0) ⇒ S e p in
      let h₁ = and_right (all_below sh.periodic_count dueIn) _ h in
      ⊎_elim
      (λ (d : due sh t e p ≡ true).
      let x = (due_says sh t e p).0 d in
      let i : ℕ = x.0 in
      rw (x.3, x.4) at (passes_then (row_due (sh.periodic i) t) (S (sh.periodic i).event (sh.periodic i).priority) (all_elim sh.periodic_count dueIn (and_left (all_below sh.periodic_count dueIn) _ h) i x.1) x.2))
      (λ (r : (rows_in ws (row t) e p ≡ true) ⊎ (asks 0 e p ≡ true)).
      ⊎_elim
      (λ (w : rows_in ws (row t) e p ≡ true). passes_then (eqb (row t) (row t)) (S e p) (rows_part ws waitIn (and_left (each_waiting ws waitIn) _ h₁) (row t) e p w) (eq-eqb (row t) (row t) refl))
      (λ (a : asks 0 e p ≡ true). passes_then (eqb t t && eqb 0 0) (S e p) (asked_part qs askIn (and_right (each_waiting ws waitIn) _ h₁) t 0 e p a) (and_both (eq-eqb t t refl) refl))
      r)
      ((givens_says sh asks before e p).0 g)

  roles_found_lem : (ms : List Prioritized) (rs' : List ℕ) → roles_found rs ms rs' ≡ true → (r : ℕ) → roles_in rs' r ≡ roles_after (roles_in rs) (among ms) r
  unfolding roles_found
  roles_found_lem ms rs' h r =
      let S : Events = among ms in
      let events : Bool = each_of ms (λ e p. ltb e EVENTS) in
      let roles : List ℕ → Bool = λ rs. all_below (length rs) (λ i. ltb (get_or rs i 0) ROLES) in
      let found : ℕ → Bool = λ r. beq (roles_in rs' r) (roles_after (roles_in rs) S r) in
      let h₁ = and_left (events && roles rs) _ h in
      let h₂ = and_right (events && roles rs) _ h in
      let none : (rs : List ℕ) → roles rs ≡ true → ROLES ≤ r → roles_in rs r ≡ false
      = λ rs k l. is_false (roles_in rs r) (λ m. omega (arith, ltb-true r ROLES (roles_part rs (λ x. ltb x ROLES) k r m))) in
      let idle : (e : ℕ) → EVENTS ≤ e → nonblocked S S e ≡ false
      = λ e l. is_false (nonblocked S S e) (λ m.
      let x = (nonblocked_says S S e).0 m in
      omega (arith, ltb-true e EVENTS (among_part ms (λ e p. ltb e EVENTS) (and_left events (roles rs) h₁) e x.0 x.2))) in
      ⊎_elim
      (λ (l : ltb r ROLES ≡ true). beq_true _ _ (all_elim ROLES found (and_right (roles rs') (all_below ROLES found) h₂) r (ltb-true _ _ l)))
      (λ (m : ltb r ROLES ≡ false).
      let l : ROLES ≤ r = ltb-false r ROLES m in
      none rs' (and_left (roles rs') (all_below ROLES found) h₂) l
      ∙ sym (after_keeps (roles_in rs) S r (idle (enable r) (omega arith)) (idle (disable r) (omega arith)) ∙ none rs (and_right events (roles rs) h₁) l))
      (test (ltb r ROLES))

  -- what was kept of the rows, what is asked for with a delay and the heads of delayed triggers are all that the rows after hold
  after_in : (S : Events) (X : ℕ → Events)
      → ((k e p : ℕ) → not (eqb k (row t)) ≡ true → rows_in ws k e p ≡ true → X k e p ≡ true)
      → ((d e p : ℕ) → ltb 0 d ≡ true → asks d e p ≡ true → X (row (t + d)) e p ≡ true)
      → ((i : ℕ) → i < sh.trigger_count → ltb 0 (sh.trigger i).delay ≡ true → allows (roles_in rs) (sh.trigger i) ≡ true → met S S (sh.trigger i) ≡ true
      → X (row (t + (sh.trigger i).delay)) (sh.trigger i).head (sh.trigger i).priority ≡ true)
      → (k e p : ℕ) → row_after sh asks before S k e p ≡ true → X k e p ≡ true
  unfolding row_after
  after_in S X kept asked sent k e p m =
      let other : Bool = not (eqb k (row t)) in
      let joins : ℕ → Bool = λ d. eqb (row (t + d)) k && waits_for sh asks (roles_in rs) S d e p in
      ⊎_elim
      (λ (a : (other && rows_in ws k e p) ≡ true). kept k e p (and_left other (rows_in ws k e p) a) (and_right other (rows_in ws k e p) a))
      (λ (b : any_below WAITING_ROWS joins ≡ true).
      let x = any_elim WAITING_ROWS joins b in
      let d : ℕ = x.0 in
      let w : waits_for sh asks (roles_in rs) S d e p ≡ true = and_right (eqb (row (t + d)) k) _ x.2 in
      let o : ltb 0 d ≡ true = lt-ltb 0 d (waits_later sh asks (roles_in rs) S d e p w) in
      let there : X (row (t + d)) e p ≡ true
      = ⊎_elim
      (λ (a : asks d e p ≡ true). asked d e p o a)
      (λ (r : (i : ℕ) × Sent sh (roles_in rs) S d e p i).
      let s = r.1 in
      rw (s.delayed, s.event, s.priority) at (sent r.0 s.row (rw s.delayed o) s.allowed s.body_met))
      (waits_cases sh asks (roles_in rs) S d e p w) in
      subst (λ (z : ℕ). X z e p ≡ true) (eqb-true _ _ (and_left (eqb (row (t + d)) k) _ x.2)) there)
      (or_cases (other && rows_in ws k e p) (any_below WAITING_ROWS joins) m)

  waits_found_lem : (S : Events) (ws' : List Waits) → waits_found sh qs t rs ws S ws' ≡ true → (k e p : ℕ) → rows_in ws' k e p ≡ row_after sh asks before S k e p
  unfolding waits_found
  waits_found_lem S ws' h k e p =
      let after : ℕ → Events = row_after sh asks before S in
      let kept : ℕ → Events = λ k e p. not (eqb k (row t)) ⇒ rows_in ws' k e p in
      let asked : Stream = λ u d e p. (eqb u t && ltb 0 d) ⇒ rows_in ws' (row (t + d)) e p in
      let fires : ℕ → Bool = λ i. ltb 0 (sh.trigger i).delay && (allows (roles_in rs) (sh.trigger i) && met S S (sh.trigger i)) in
      let sent : ℕ → Bool = λ i. fires i ⇒ rows_in ws' (row (t + (sh.trigger i).delay)) (sh.trigger i).head (sh.trigger i).priority in
      let h₁ = and_left (each_waiting ws' after && each_waiting ws kept) _ h in
      let h₂ = and_right (each_waiting ws' after && each_waiting ws kept) _ h in
      bool_ext (rows_in ws' k e p) (after k e p)
      (rows_part ws' after (and_left (each_waiting ws' after) (each_waiting ws kept) h₁) k e p)
      (after_in S (rows_in ws')
      (λ k e p n m. passes_then (not (eqb k (row t))) (rows_in ws' k e p) (rows_part ws kept (and_right (each_waiting ws' after) (each_waiting ws kept) h₁) k e p m) n)
      (λ d e p o a. passes_then (eqb t t && ltb 0 d) (rows_in ws' (row (t + d)) e p) (asked_part qs asked (and_left (each_asked qs asked) _ h₂) t d e p a) (and_both (eq-eqb t t refl) o))
      (λ i l o a m.
      passes_then (fires i) (rows_in ws' (row (t + (sh.trigger i).delay)) (sh.trigger i).head (sh.trigger i).priority)
      (all_elim sh.trigger_count sent (and_right (each_asked qs asked) _ h₂) i l)
      (and_both o (and_both a m)))
      k
      e
      p)

  -- THE LAW: an instant of a sheet in good order without a loop is as found
  pub minute_found_lem : GoodOrder sh → NoLoop sh → (m : Minute) → minute_found sh qs t rs ws m ≡ true → OneStep sh asks before (among m.events) (state_of (suc t) m.roles m.waits)
  unfolding minute_found
  minute_found_lem good nl m h =
      let S : Events = among m.events in
      let G : Events = givens sh asks before in
      let solving : Bool = givens_held sh qs t ws S && self_caused sh (ready sh (roles_in rs)) G m.events in
      let h₁ : solving ≡ true = and_left solving _ h in
      let h₂ = and_right solving _ h in
      let step : Step sh asks before S (state_of (suc t) m.roles m.waits)
      = record {
        solves = caused_least sh (ready sh (roles_in rs)) G m.events (givens_held_lem S (and_left (givens_held sh qs t ws S) _ h₁)) (and_right (givens_held sh qs t ws S) _ h₁);
        instant = refl;
        roles = roles_found_lem m.events m.roles (and_left (roles_found rs m.events m.roles) _ h₂);
        waiting = λ k e p l. waits_found_lem S m.waits (and_right (roles_found rs m.events m.roles) _ h₂) k e p;
      } in
      let one = one_solution sh good nl (roles_in rs) G in
      record {
        step = step;
        only = λ T s. one.2 T s ∙ sym (one.2 S step.solves);
        same = λ st z T st' x. step_same sh asks st before z good nl T S st' (state_of (suc t) m.roles m.waits) x step;
      }
