-- What the buffers hold after the box's writing is what the model says: the givens in the events buffer, and in the waiting buffer each row after the instant.
-- Assumes nothing.
use Rattle.std.specs.Prelude.{◌≡◌, Bool, ◌&&◌, ◌||◌, List, length}
use Rattle.std.proofs.Math.Path.{refl, ap, ap₂}
use Rattle.std.proofs.Common.{sym, ◌∙◌, subst}
use Rattle.std.proofs.Math.Logic.{⊎_elim}
use Rattle.std.proofs.Math.Bool.{true, or_assoc}
use Prim.Native.Nat.{ℕ, ◌+◌, ◌≤◌, ◌<◌}
use native.Mathlib.Omega.{arith}
use Rattle.std.proofs.Math.Dec.{ltb, eqb}
use borrow.Author.Tests.{lt-ltb, ltb-true, eq-eqb}
use Rattle.theory.specs.Numbers.{EVENTS, PRIORITIES, WAITING_ROWS, WAITING_NUMBERS, LONGEST_DELAY}
use Rattle.theory.specs.Below.{any_below}
use Rattle.theory.specs.Events.{Events, Roles}
use Rattle.theory.specs.Sheet.{Trigger, Sheet, GoodOrder, is, row_due, due}
use Rattle.theory.specs.Instant.{allows, met, waits_for}
use Rattle.theory.specs.Box.{row, givens, row_after}
use Rattle.theory.proofs.Laws.Tests.{and_left, and_right, and_both, or_left, or_right, or_cases, bool_ext, or_turned}
use Rattle.theory.proofs.Laws.Below.{any_intro, any_elim}
use Rattle.theory.proofs.Laws.Limits.{periodic_says}
use Rattle.theory.proofs.Laws.Exists.{is_only}
use Rattle.theory.proofs.Laws.History.{waits_asked, waits_head, waits_later, waits_cases, Sent}
use Rattle.theory.proofs.Laws.OneSolution.{good_trigger}
use Rattle.tables.specs.Layout.{sheet_of, periodic_at, trigger_at}
use Rattle.tables.specs.Buffers.{roles_of, events_of, waiting_of}
use Rattle.tables.specs.Asked.{Asked, asks}
use Rattle.tables.specs.Lent.{Rules, sheet_in}
use Rattle.masks.specs.Joins.{joins}
use Rattle.masks.specs.Laws.Joins.{writes_size}
use Rattle.masks.specs.Laws.Fill.{joins_size, joins_events, joins_waiting}
use Rattle.due.specs.Due.{due_at}
use Rattle.waiting.specs.Waiting.{copied, cleared}
use Rattle.waiting.specs.Laws.{copied_is, cleared_is}
use Rattle.delays.specs.Delays.{trigger_entry}
use Rattle.requests.specs.Requests.{AllFit}
use Rattle.requests.specs.Laws.{fit_says, asks_intro, asks_elim}
use Rattle.asked.specs.Adds.{given_entry, wait_entry}
use Rattle.instant.specs.Acted.{filled, refilled}

module _ (R : Rules) (good : GoodOrder (sheet_in R)) (q : Asked) (fit : AllFit R.counts.roles q) where
  abbrev sh : Sheet
  sh = sheet_in R

  -- ---- the givens

  abbrev full : List ℕ → List ℕ → ℕ → List ℕ
  full l w t = filled l w R.tables.periodics R.counts.periodics q t

  copied_size : (l w : List ℕ) (t : ℕ) → length l ≡ EVENTS → length (copied l w t) ≡ EVENTS
  copied_size l w t h = writes_size l 0 EVENTS _ ∙ h

  pub filled_size : (l w : List ℕ) (t : ℕ) → length l ≡ EVENTS → length (full l w t) ≡ EVENTS
  filled_size l w t h = joins_size _ _ _ ∙ (joins_size _ _ _ ∙ copied_size l w t h)

  due_within : (t i : ℕ) → i < R.counts.periodics → ((periodic_at R.tables.periodics i).event < EVENTS) × ((periodic_at R.tables.periodics i).priority < PRIORITIES)
  unfolding sheet_of
  due_within t i l =
      let k = (periodic_says R.counts.roles (periodic_at R.tables.periodics i)).0 (good.periodics i l) in
      (omega (arith, k.event, good.few_roles), k.priority)

  asked_within : (i : ℕ) → i < q.count → ((q.request i).event < EVENTS) × ((q.request i).priority < PRIORITIES) × ((q.request i).delay ≤ LONGEST_DELAY)
  unfolding sheet_of
  asked_within i l = let k = fit_says R.counts.roles q fit i l in (omega (arith, k.event, good.few_roles), k.priority, k.delay)

  pub filled_is : (l w : List ℕ) (t roles : ℕ) → length l ≡ EVENTS → (e p : ℕ)
      → events_of (full l w t) e p ≡ givens sh (asks q) (record { instant = t; roles = roles_of roles; waiting = waiting_of w }) e p
  unfolding givens due asks sheet_of
  filled_is l w t roles h e p =
      joins_events (joins (copied l w t) R.counts.periodics (due_at R.tables.periodics t)) (joins_size _ _ _ ∙ copied_size l w t h) q.count (λ k. given_entry (q.request k))
      (λ i m _. let k = asked_within i m in (k.0, k.1)) e p
      ∙ (ap₂ (λ (a b : Bool). a || b)
      (joins_events (copied l w t) (copied_size l w t h) R.counts.periodics (due_at R.tables.periodics t) (λ i m _. due_within t i m) e p
      ∙ ap (λ (b : Bool). b || any_below R.counts.periodics (λ i. row_due (periodic_at R.tables.periodics i) t && is (periodic_at R.tables.periodics i).event (periodic_at R.tables.periodics i).priority e p)) (copied_is l w t h e p))
      refl
      ∙ or_turned (waiting_of w (row t) e p) _ _)

  -- ---- what waits

  module _ (ST : Roles) (S : Events) (t : ℕ) where
    abbrev full_rows : List ℕ → List ℕ
    full_rows w = refilled w S R.tables.triggers R.counts.triggers q ST t

    cleared_size : (w : List ℕ) → length w ≡ WAITING_NUMBERS → length (cleared w t) ≡ WAITING_NUMBERS
    cleared_size w h = writes_size w _ EVENTS _ ∙ h

    pub rows_size : (w : List ℕ) → length w ≡ WAITING_NUMBERS → length (full_rows w) ≡ WAITING_NUMBERS
    rows_size w h = joins_size _ _ _ ∙ (joins_size _ _ _ ∙ cleared_size w h)

    trigger_within : (i : ℕ) → i < R.counts.triggers → ((trigger_at R.tables.triggers i).head < EVENTS) × ((trigger_at R.tables.triggers i).priority < PRIORITIES) × ((trigger_at R.tables.triggers i).delay ≤ LONGEST_DELAY)
    unfolding sheet_of
    trigger_within i l = let k = good_trigger sh good i l in (omega (arith, k.head, good.few_roles), k.priority, k.delay)

    module _ (k e p : ℕ) where
      abbrev by_request : ℕ → Bool
      by_request i = ltb 0 (q.request i).delay && (eqb (row (t + (q.request i).delay)) k && is (q.request i).event (q.request i).priority e p)

      abbrev acts : ℕ → Bool
      acts i = ltb 0 (trigger_at R.tables.triggers i).delay && (allows ST (trigger_at R.tables.triggers i) && met S S (trigger_at R.tables.triggers i))

      abbrev by_trigger : ℕ → Bool
      by_trigger i = acts i && (eqb (row (t + (trigger_at R.tables.triggers i).delay)) k && is (trigger_at R.tables.triggers i).head (trigger_at R.tables.triggers i).priority e p)

      abbrev joins_row : ℕ → Bool
      joins_row d = eqb (row (t + d)) k && waits_for sh (asks q) ST S d e p

      some_request : any_below q.count by_request ≡ true → any_below WAITING_ROWS joins_row ≡ true
      some_request h =
          let r = any_elim q.count by_request h in
          let i : ℕ = r.0 in
          let d : ℕ = (q.request i).delay in
          let o : 0 < d = ltb-true 0 d (and_left (ltb 0 d) _ r.2) in
          let x = and_right (ltb 0 d) _ r.2 in
          any_intro WAITING_ROWS joins_row d (omega (arith, (asked_within i r.1).2))
          (and_both (and_left (eqb (row (t + d)) k) _ x)
          (waits_asked sh (asks q) ST S d e p o (asks_intro q d e p i r.1 refl (and_right (eqb (row (t + d)) k) _ x))))

      some_trigger : any_below R.counts.triggers by_trigger ≡ true → any_below WAITING_ROWS joins_row ≡ true
      unfolding sheet_of
      some_trigger h =
          let r = any_elim R.counts.triggers by_trigger h in
          let i : ℕ = r.0 in
          let g : Trigger = trigger_at R.tables.triggers i in
          let d : ℕ = g.delay in
          let a : acts i ≡ true = and_left (acts i) _ r.2 in
          let o : 0 < d = ltb-true 0 d (and_left (ltb 0 d) _ a) in
          let am = and_right (ltb 0 d) (allows ST g && met S S g) a in
          let x = and_right (acts i) _ r.2 in
          let w : waits_for sh (asks q) ST S d g.head g.priority ≡ true
          = waits_head sh (asks q) ST S d i o r.1 refl (and_left (allows ST g) (met S S g) am) (and_right (allows ST g) (met S S g) am) in
          any_intro WAITING_ROWS joins_row d (omega (arith, (trigger_within i r.1).2))
          (and_both (and_left (eqb (row (t + d)) k) _ x)
          (is_only (waits_for sh (asks q) ST S d) g.head g.priority e p (and_right (eqb (row (t + d)) k) _ x) w))

      some_row : any_below WAITING_ROWS joins_row ≡ true → (any_below q.count by_request || any_below R.counts.triggers by_trigger) ≡ true
      unfolding sheet_of
      some_row h =
          let r = any_elim WAITING_ROWS joins_row h in
          let d : ℕ = r.0 in
          let z : eqb (row (t + d)) k ≡ true = and_left (eqb (row (t + d)) k) _ r.2 in
          let w : waits_for sh (asks q) ST S d e p ≡ true = and_right (eqb (row (t + d)) k) _ r.2 in
          let o : ltb 0 d ≡ true = lt-ltb 0 d (waits_later sh (asks q) ST S d e p w) in
          ⊎_elim
          (λ (a : asks q d e p ≡ true).
          let x = asks_elim q d e p a in
          or_left (any_below R.counts.triggers by_trigger)
          (any_intro q.count by_request x.0 x.1
          (subst (λ (n : ℕ). (ltb 0 n && (eqb (row (t + n)) k && is (q.request x.0).event (q.request x.0).priority e p)) ≡ true) (sym x.2) (and_both o (and_both z x.3)))))
          (λ (x : (i : ℕ) × Sent sh ST S d e p i).
          let i : ℕ = x.0 in
          let g : Trigger = trigger_at R.tables.triggers i in
          or_right (any_below q.count by_request)
          (any_intro R.counts.triggers by_trigger i x.1.row
          (subst (λ (n : ℕ). ((ltb 0 n && (allows ST g && met S S g)) && (eqb (row (t + n)) k && is g.head g.priority e p)) ≡ true) (sym x.1.delayed)
          (and_both
          (and_both o (and_both x.1.allowed x.1.body_met))
          (and_both z (and_both (eq-eqb _ _ x.1.event) (eq-eqb _ _ x.1.priority)))))))
          (waits_cases sh (asks q) ST S d e p w)

      rows_join : (any_below q.count by_request || any_below R.counts.triggers by_trigger) ≡ any_below WAITING_ROWS joins_row
      rows_join =
          bool_ext (any_below q.count by_request || any_below R.counts.triggers by_trigger) (any_below WAITING_ROWS joins_row)
          (λ h. ⊎_elim some_request some_trigger (or_cases (any_below q.count by_request) (any_below R.counts.triggers by_trigger) h))
          some_row

    pub rows_are : (w : List ℕ) → length w ≡ WAITING_NUMBERS → (k e p : ℕ)
        → waiting_of (full_rows w) k e p ≡ row_after sh (asks q) (record { instant = t; roles = ST; waiting = waiting_of w }) S k e p
    unfolding row_after
    rows_are w h k e p =
        joins_waiting (joins (cleared w t) q.count (λ i. wait_entry t (q.request i))) (joins_size _ _ _ ∙ cleared_size w h) R.counts.triggers (λ i. trigger_entry ST S t (trigger_at R.tables.triggers i))
        (λ i. row (t + (trigger_at R.tables.triggers i).delay)) (λ i. (trigger_at R.tables.triggers i).head) (λ i _. refl)
        (λ i l _. let x = trigger_within i l in (omega arith, x.0, x.1)) k e p
        ∙ (ap (λ (b : Bool). b || any_below R.counts.triggers (by_trigger k e p))
        (joins_waiting (cleared w t) (cleared_size w h) q.count (λ i. wait_entry t (q.request i)) (λ i. row (t + (q.request i).delay)) (λ i. (q.request i).event) (λ i _. refl)
        (λ i l _. let x = asked_within i l in (omega arith, x.0, x.1)) k e p)
        ∙ (or_assoc (waiting_of (cleared w t) k e p) (any_below q.count (by_request k e p)) (any_below R.counts.triggers (by_trigger k e p))
        ∙ ap₂ (λ (a b : Bool). a || b) (cleared_is w t h k e p) (rows_join k e p)))
