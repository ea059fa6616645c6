-- What stands in unused places does not matter: sheets that are the same in all that is used have the same due events, the same triggers, the same loops and the same steps.
-- Each notion is a test of some or every row or place below a count, and what is tested there is the same.
-- Assumes nothing.
use Rattle.std.specs.Prelude.{◌≡◌, refl, Bool, true, not, ◌||◌, ℕ, ◌+◌, ◌-◌, ◌/◌, ◌%◌, ◌<◌}
use Rattle.std.proofs.Common.{sym, ◌∙◌, subst, arith}
use Rattle.std.proofs.Math.Path.{ap, ap₂, fun_ext}
use Rattle.std.proofs.Math.Bool.{◌&&◌}
use Rattle.std.proofs.Math.Dec.{ltb, eqb}
use Rattle.theory.specs.Numbers.{EVENTS, WAITING_ROWS}
use Rattle.theory.specs.Below.{any_below, all_below, count_below, first_below}
use Rattle.theory.specs.Events.{Events, Roles, conf, holds, nonblocked}
use Rattle.theory.specs.Sheet.{Periodic, Trigger, Sheet, of_roles, periodic_fits, trigger_fits, GoodOrder, row_due, is, due}
use Rattle.theory.specs.Instant.{Requests, allows, met, ready, Closed, Solves, waits_for}
use Rattle.theory.specs.Graph.{Edges, counts, node, drawn, edge, Reaches, OnCycle, NoLoop, LoopAt}
use Rattle.theory.specs.Model.{Stream, Trace, Meets, ExecutionModel}
use Rattle.theory.specs.Box.{State, row, givens, row_after, Step}
use Rattle.theory.specs.LoopTest.{through, PAIRS, loop_place, level_of}
use Rattle.theory.specs.Used.{SameTrigger, SameUsed}
use Rattle.theory.proofs.Laws.Below.{any_same, all_same}
use Rattle.theory.proofs.Laws.Limits.{trigger_tests_lem}

-- the same count, and the same tests below it
any_used : (n m : ℕ) (f g : ℕ → Bool) → n ≡ m → ((i : ℕ) → i < n → f i ≡ g i) → any_below n f ≡ any_below m g
any_used n m f g e h = any_same n f g h ∙ ap (λ (k : ℕ). any_below k g) e

all_used : (n m : ℕ) (f g : ℕ → Bool) → n ≡ m → ((i : ℕ) → i < n → f i ≡ g i) → all_below n f ≡ all_below m g
all_used n m f g e h = all_same n f g h ∙ ap (λ (k : ℕ). all_below k g) e

-- ---- the relation

-- a trigger is the same as itself
pub trigger_itself : (g : Trigger) → SameTrigger g g
trigger_itself g = record { event_count = refl; condition_count = refl; events = λ j l. refl; conditions = λ j l. refl; head = refl; priority = refl; delay = refl }

trigger_turned : (g h : Trigger) → SameTrigger g h → SameTrigger h g
trigger_turned g h s =
    record {
      event_count = sym s.event_count;
      condition_count = sym s.condition_count;
      events = λ j l. sym (s.events j (omega (arith, s.event_count)));
      conditions = λ j l. sym (s.conditions j (omega (arith, s.condition_count)));
      head = sym s.head;
      priority = sym s.priority;
      delay = sym s.delay;
    }

-- and it goes both ways, of triggers and of sheets
pub used_turned : (a b : Sheet) → SameUsed a b → SameUsed b a
used_turned a b s =
    record {
      role_count = sym s.role_count;
      periodic_count = sym s.periodic_count;
      trigger_count = sym s.trigger_count;
      periodics = λ i l. sym (s.periodics i (omega (arith, s.periodic_count)));
      triggers = λ i l. trigger_turned (a.trigger i) (b.trigger i) (s.triggers i (omega (arith, s.trigger_count)));
    }

-- ---- a trigger

module _ (g h : Trigger) (s : SameTrigger g h) where
  -- its conditions all hold
  allows_used : (ST : Roles) → allows ST g ≡ allows ST h
  unfolding allows
  allows_used ST = all_used g.condition_count h.condition_count _ _ s.condition_count (λ j l. ap (holds ST) (s.conditions j (omega arith)))

  -- its body is met
  met_used : (S X : Events) → met S X g ≡ met S X h
  unfolding met
  met_used S X = all_used g.event_count h.event_count _ _ s.event_count (λ j l. ap (nonblocked S X) (s.events j (omega arith)))

  -- it holds what it may
  pub fits_used : (n : ℕ) → trigger_fits n g ≡ trigger_fits n h
  fits_used n =
      let events : all_below g.event_count (λ j. of_roles n (g.event j)) ≡ all_below h.event_count (λ j. of_roles n (h.event j))
      = all_used g.event_count h.event_count _ _ s.event_count (λ j l. ap (of_roles n) (s.events j (omega arith))) in
      let conditions : all_below g.condition_count (λ j. of_roles n (g.condition j)) ≡ all_below h.condition_count (λ j. of_roles n (h.condition j))
      = all_used g.condition_count h.condition_count _ _ s.condition_count (λ j l. ap (of_roles n) (s.conditions j (omega arith))) in
      trigger_tests_lem n g ∙ cc (events, conditions, s.event_count, s.condition_count, s.head, s.priority, s.delay) ∙ sym (trigger_tests_lem n h)

  -- some body event has `from E` = a
  leaves_used : (from : ℕ → ℕ) (a : ℕ) → any_below g.event_count (λ j. eqb (from (g.event j)) a) ≡ any_below h.event_count (λ j. eqb (from (h.event j)) a)
  leaves_used from a = any_used g.event_count h.event_count _ _ s.event_count (λ j l. ap (λ (e : ℕ). eqb (from e) a) (s.events j (omega arith)))

-- ---- the loop test looks at the used triggers alone

module _ (a b : Sheet) (n : a.trigger_count ≡ b.trigger_count) (same : (i : ℕ) → i < a.trigger_count → SameTrigger (a.trigger i) (b.trigger i)) where
  -- trigger i counts and has the head e
  heads_used : (i : ℕ) → i < a.trigger_count → (e : ℕ) → (counts a i && eqb (a.trigger i).head e) ≡ (counts b i && eqb (b.trigger i).head e)
  unfolding counts
  heads_used i l e = cc ((same i l).delay, (same i l).head)

  -- the nodes and the edges
  node_used : (e : ℕ) → node a e ≡ node b e
  unfolding node
  node_used e = any_used a.trigger_count b.trigger_count _ _ n (λ i l. heads_used i l e)

  drawn_used : (from : ℕ → ℕ) → drawn from a ≡ drawn from b
  unfolding drawn
  drawn_used from =
      fun_ext (λ x. fun_ext (λ y.
      ap₂ ◌&&◌ (node_used x)
      (any_used a.trigger_count b.trigger_count _ _ n (λ i l. ap₂ ◌&&◌ (heads_used i l y) (leaves_used (a.trigger i) (b.trigger i) (same i l) from x)))))

  edge_used : edge a ≡ edge b
  unfolding edge
  edge_used = fun_ext (λ x. fun_ext (λ y. ap₂ (λ (p m : Edges). p x y || m x y) (drawn_used (λ e. e)) (drawn_used conf)))

  -- LOOP's place, and the levels
  pub loop_place_used : loop_place a ≡ loop_place b
  unfolding loop_place
  loop_place_used =
      ap₂ (λ (m e : Edges). first_below PAIRS (λ k. m (k / EVENTS) (k % EVENTS) && through e EVENTS (k % EVENTS) (k / EVENTS))) (drawn_used conf) edge_used

  pub level_used : level_of a ≡ level_of b
  unfolding level_of
  level_used = fun_ext (λ e. ap (λ (E : Edges). count_below EVENTS (λ x. through E EVENTS x e)) edge_used)

  cycle_used : (x y : ℕ) → OnCycle a x y → OnCycle b x y
  cycle_used x y c =
      record {
        negative = subst (λ (m : Edges). m x y ≡ true) (drawn_used conf) c.negative;
        back = subst (λ (E : Edges). Reaches E y x) edge_used c.back;
      }

-- no loop, or a loop at the same place
pub noloop_used : (a b : Sheet) → SameUsed a b → NoLoop a → NoLoop b
noloop_used a b s nl x y c = let t : SameUsed b a = used_turned a b s in nl x y (cycle_used b a t.trigger_count t.triggers x y c)

pub loop_used : (a b : Sheet) → SameUsed a b → (k : ℕ) → LoopAt a k → LoopAt b k
loop_used a b s k l =
    let t : SameUsed b a = used_turned a b s in
    record {
      from = l.from;
      to = l.to;
      is_pair = l.is_pair;
      from_event = l.from_event;
      to_event = l.to_event;
      cycle = cycle_used a b s.trigger_count s.triggers l.from l.to l.cycle;
      is_first = λ x y p q c. l.is_first x y p q (cycle_used b a t.trigger_count t.triggers x y c);
    }

-- ---- good order, the givens, what waits, and the heads that are caused

module _ (a b : Sheet) (s : SameUsed a b) where
  -- no field and no count is outside its limit
  pub good_used : GoodOrder a → GoodOrder b
  good_used good =
      record {
        some_role = omega (arith, good.some_role, s.role_count);
        few_roles = omega (arith, good.few_roles, s.role_count);
        few_periodics = omega (arith, good.few_periodics, s.periodic_count);
        few_triggers = omega (arith, good.few_triggers, s.trigger_count);
        periodics = λ i l.
            let m : i < a.periodic_count = omega (arith, s.periodic_count) in
            sym (ap₂ periodic_fits s.role_count (s.periodics i m)) ∙ good.periodics i m;
        triggers = λ i l.
            let m : i < a.trigger_count = omega (arith, s.trigger_count) in
            sym (ap (λ (n : ℕ). trigger_fits n (a.trigger i)) s.role_count ∙ fits_used (a.trigger i) (b.trigger i) (s.triggers i m) b.role_count) ∙ good.triggers i m;
      }

  -- the due periodic events, the givens, what comes to wait, and the rows after
  due_used : (t e p : ℕ) → due a t e p ≡ due b t e p
  unfolding due
  due_used t e p =
      any_used a.periodic_count b.periodic_count _ _ s.periodic_count
      (λ i l. ap (λ (w : Periodic). row_due w t && is w.event w.priority e p) (s.periodics i (omega arith)))

  givens_used : (asks : Requests) (st : State) → givens a asks st ≡ givens b asks st
  unfolding givens
  givens_used asks st =
      fun_ext (λ e. fun_ext (λ p. ap (λ (d : Bool). d || (st.waiting (row st.instant) e p || asks 0 e p)) (due_used st.instant e p)))

  waits_used : (asks : Requests) (ST : Roles) (S : Events) (d e p : ℕ) → waits_for a asks ST S d e p ≡ waits_for b asks ST S d e p
  unfolding waits_for
  waits_used asks ST S d e p =
      ap (λ (w : Bool). ltb 0 d && (asks d e p || w))
      (any_used a.trigger_count b.trigger_count _ _ s.trigger_count (λ i l.
      let g : SameTrigger (a.trigger i) (b.trigger i) = s.triggers i (omega arith) in
      cc (g.delay, g.head, g.priority, allows_used (a.trigger i) (b.trigger i) g ST, met_used (a.trigger i) (b.trigger i) g S S)))

  row_used : (asks : Requests) (st : State) (S : Events) (k e p : ℕ) → row_after a asks st S k e p ≡ row_after b asks st S k e p
  unfolding row_after
  row_used asks st S k e p =
      ap (λ (w : Bool). (not (eqb k (row st.instant)) && st.waiting k e p) || w)
      (any_same WAITING_ROWS _ _ (λ d l. ap (λ (w : Bool). eqb (row (st.instant + d)) k && w) (waits_used asks st.roles S d e p)))

  -- what is closed under the triggers of delay 0
  ready_used : (ST : Roles) (i : ℕ) → i < a.trigger_count → ready a ST i ≡ ready b ST i
  unfolding ready
  ready_used ST i l =
      let g : SameTrigger (a.trigger i) (b.trigger i) = s.triggers i l in
      cc (g.delay, allows_used (a.trigger i) (b.trigger i) g ST)

  closed_used : (ST : Roles) (G S X : Events) → Closed a (ready a ST) G S X → Closed b (ready b ST) G S X
  closed_used ST G S X c =
      record {
        holds_givens = c.holds_givens;
        holds_heads = λ i l o m.
            let k : i < a.trigger_count = omega (arith, s.trigger_count) in
            let g : SameTrigger (a.trigger i) (b.trigger i) = s.triggers i k in
            let h : X (a.trigger i).head (a.trigger i).priority ≡ true = c.holds_heads i k (ready_used ST i k ∙ o) (met_used (a.trigger i) (b.trigger i) g S X ∙ m) in
            cc (g.head, g.priority, h);
      }

  -- the conditions 1 to 3 of definition 3.8
  meets_used : (RQ : Stream) (tr : Trace) (X : ℕ → Events) → Meets a RQ tr X → Meets b RQ tr X
  meets_used RQ tr X c =
      record {
        periodic = λ t e p d. c.periodic t e p (due_used t e p ∙ d);
        request = c.request;
        trigger = λ t i l d h m.
            let k : i < a.trigger_count = omega (arith, s.trigger_count) in
            let g : SameTrigger (a.trigger i) (b.trigger i) = s.triggers i k in
            let x : X t (a.trigger i).head (a.trigger i).priority ≡ true
            = c.trigger t i k (omega (arith, g.delay))
            (ap (λ (n : ℕ). allows (tr.ST (t - n)) (a.trigger i)) g.delay ∙ (allows_used (a.trigger i) (b.trigger i) g (tr.ST (t - (b.trigger i).delay)) ∙ h))
            (ap (λ (n : ℕ). met (tr.EV (t - n)) (X (t - n)) (a.trigger i)) g.delay
            ∙ (met_used (a.trigger i) (b.trigger i) g (tr.EV (t - (b.trigger i).delay)) (X (t - (b.trigger i).delay)) ∙ m)) in
            cc (g.head, g.priority, x);
      }

-- ---- the equation, the step, and the paper's model

-- the equation has the same solutions
pub solves_used : (a b : Sheet) → SameUsed a b → (ST : Roles) (G S : Events) → Solves a ST G S → Solves b ST G S
solves_used a b s ST G S x =
    record { closed = closed_used a b s ST G S S x.closed; least = λ Y c. x.least Y (closed_used b a (used_turned a b s) ST G S Y c) }

-- THE LAW, on the model's level: a step of the one is a step of the other
pub step_used : (a b : Sheet) → SameUsed a b → (asks : Requests) (st : State) (S : Events) (st' : State) → Step a asks st S st' → Step b asks st S st'
step_used a b s asks st S st' x =
    record {
      solves = subst (λ (G : Events). Solves b st.roles G S) (givens_used a b s asks st) (solves_used a b s st.roles (givens a asks st) S x.solves);
      instant = x.instant;
      roles = x.roles;
      waiting = λ k e p l. x.waiting k e p l ∙ row_used a b s asks st S k e p;
    }

-- and so is an execution model
pub model_used : (a b : Sheet) → SameUsed a b → (start : Roles) (RQ : Stream) (tr : Trace) → ExecutionModel start a RQ tr → ExecutionModel start b RQ tr
model_used a b s start RQ tr x =
    record {
      starts = x.starts;
      roles = x.roles;
      events = record {
        meets = meets_used a b s RQ tr tr.EV x.events.meets;
        least = λ Y m. x.events.least Y (meets_used b a (used_turned a b s) RQ tr Y m);
      };
    }
