-- The contract of the step leaves one possible answer and one possible content of all that is lent; its events are the one solution; and on OK it goes by the set of the requests.
-- Assumes nothing.
use Rattle.std.specs.Prelude.{◌≡◌, refl, Bool, true, ◌&&◌, ◌||◌, List, ℕ, ◌+◌, ◌*◌, ◌<◌, ltb, eqb, length, get_or, Err}
use Rattle.std.proofs.Common.{sym, ap, ◌∙◌, subst, ⊎_elim, arith, ltb-true, eqb-true}
use Rattle.std.proofs.Math.Path.{fun_ext}
use Rattle.std.proofs.Math.Logic.{by_cases}
use Rattle.std.proofs.Math.Decide.{dec_lt}
use Rattle.std.proofs.Math.ListN.{get_or-eq_default}
use Rattle.theory.specs.Numbers.{EVENTS, PRIORITIES}
use Rattle.theory.specs.Below.{any_below, ExactlyOne}
use Rattle.theory.specs.Events.{Events, Roles}
use Rattle.theory.specs.Sheet.{Periodic, Sheet, GoodOrder, is, row_due, due}
use Rattle.theory.specs.Instant.{Requests, Solves}
use Rattle.theory.specs.Graph.{NoLoop}
use Rattle.theory.specs.Box.{State, SameState, Step, row, givens}
use Rattle.theory.proofs.Laws.Tests.{and_left, and_right, or_cases, not_both}
use Rattle.theory.proofs.Laws.Below.{any_elim}
use Rattle.theory.proofs.Laws.Limits.{periodic_says}
use Rattle.theory.proofs.Laws.OneSolution.{InBuffer, one_solution, solution_in_buffer}
use Rattle.theory.proofs.Laws.Run.{step_same}
use Rattle.answers.proofs.Laws.{verdict_cases}
use Rattle.answers.specs.declared.Refusal.{Refusal}
use Rattle.tables.specs.Layout.{sheet_of, periodic_at}
use Rattle.tables.specs.Buffers.{bit, roles_of, events_of, waiting_of, Narrow}
use Rattle.tables.specs.Asked.{Asked, asks}
use Rattle.tables.specs.Lent.{Rules, sheet_in, Lent, state_in}
use Rattle.table_judge.proofs.Laws.{judge_passes}
use Rattle.masks.specs.Laws.Bits.{bit_high, bit_none}
use Rattle.masks.specs.Laws.Held.{roles_one, events_one, waiting_one, buffer_of}
use Rattle.requests.specs.Requests.{AllFit}
use Rattle.requests.specs.Laws.{fit_says, asks_elim}
use Rattle.step.specs.Outcome.{judge_step, Stepped, Outcome}
use Rattle.step.proofs.Laws.Passes.{step_passes}
use Rattle.answers.specs.Answers.{Verdict, pass}

-- ---- two steps on what was lent are one, where their requests ask for the same set

stepped_one : (R : Rules) (q q' : Asked) (before a a' : Lent) → GoodOrder (sheet_in R) → NoLoop (sheet_in R) → asks q ≡ asks q' → Stepped R q before a → Stepped R q' before a' → a ≡ a'
stepped_one R q q' before a a' good nl e x y =
    let st : State = state_in before in
    let same : SameState st st = record { instant = refl; roles = refl; waiting = λ k e p l. refl } in
    let x' : Step (sheet_in R) (asks q') st (events_of a.events) (state_in a) = subst (λ (r : Requests). Step (sheet_in R) r st (events_of a.events) (state_in a)) e x.step in
    let s = step_same (sheet_in R) (asks q') st st same good nl (events_of a.events) (events_of a'.events) (state_in a) (state_in a') x' y.step in
    let i : a.instant ≡ a'.instant = s.1.instant in
    let r : a.roles ≡ a'.roles = roles_one a.roles a'.roles (λ k. ap (λ (f : Roles). f k) s.1.roles) in
    let w : a.waiting ≡ a'.waiting = waiting_one a.waiting a'.waiting x.waiting_size y.waiting_size s.1.waiting in
    let v : a.events ≡ a'.events = events_one a.events a'.events x.events_size y.events_size (λ e p. ap (λ (S : Events). S e p) s.0) in
    λ k. record { instant = i k; roles = r k; waiting = w k; events = v k }

-- what was accepted has good order and no loop
pub accepted : (R : Rules) (q : Asked) (before : Lent) → judge_step R q before ≡ pass → GoodOrder (sheet_in R) × NoLoop (sheet_in R)
accepted R q before h = judge_passes (sheet_in R) (step_passes R q before h).tables

-- THE STEP IS EXACT: any two outcomes that the contract allows are equal
pub step_exact : (R : Rules) (q : Asked) (before : Lent) (v v' : Verdict) (a a' : Lent) → Outcome R q before v a → Outcome R q before v' a' → (v ≡ v') × (a ≡ a')
step_exact R q before v v' a a' x y =
    let e : v ≡ v' = x.judged ∙ sym y.judged in (
      e,
      ⊎_elim
          (λ (p : v ≡ pass).
          let g = accepted R q before (sym x.judged ∙ p) in
          stepped_one R q q before a a' g.0 g.1 refl (x.passed p) (y.passed (sym e ∙ p)))
          (λ (r : (r : Refusal) × (v ≡ Err r)). x.refused r.0 r.1 ∙ sym (y.refused r.0 (sym e ∙ r.1)))
          (verdict_cases v),
    )

-- REQUESTS IN ANY ORDER: on OK the outcome depends only on the set that they ask for, not on their order or repeats
pub requests_as_set : (R : Rules) (q q' : Asked) (before a a' : Lent) → asks q ≡ asks q' → Outcome R q before pass a → Outcome R q' before pass a' → a ≡ a'
requests_as_set R q q' before a a' e x y =
    let g = accepted R q before (sym x.judged) in
    stepped_one R q q' before a a' g.0 g.1 e (x.passed refl) (y.passed refl)

-- THE STEP HANDS OUT THE ONE SOLUTION: on OK the events buffer solves the instant's equation, and no other set does
pub step_solves : (R : Rules) (q : Asked) (before a : Lent) → Outcome R q before pass a
    → Solves (sheet_in R) (roles_of before.roles) (givens (sheet_in R) (asks q) (state_in before)) (events_of a.events)
    × ((S : Events) → Solves (sheet_in R) (roles_of before.roles) (givens (sheet_in R) (asks q) (state_in before)) S → S ≡ events_of a.events)
step_solves R q before a x =
    let g = accepted R q before (sym x.judged) in
    let one = one_solution (sheet_in R) g.0 g.1 (roles_of before.roles) (givens (sheet_in R) (asks q) (state_in before)) in
    let s = (x.passed refl).step.solves in
    (s, λ S t. one.2 S t ∙ sym (one.2 (events_of a.events) s))

-- EXACTLY ONE BUFFER of 128 numbers below 2^16 holds the solution, of any sheet in good order without a loop, with any roles and any givens that a buffer holds
pub one_buffer : (sh : Sheet) → GoodOrder sh → NoLoop sh → (ST : Roles) (G : Events) → InBuffer G
    → ExactlyOne (λ (l : List ℕ). (length l ≡ EVENTS) × Narrow 16 l × Solves sh ST G (events_of l))
one_buffer sh good nl ST G fits =
    let one = one_solution sh good nl ST G in
    let b = buffer_of one.0 (solution_in_buffer sh good ST G one.0 fits one.1) in
    let l : List ℕ = b.0 in
    let is : one.0 ≡ events_of l = fun_ext (λ e. fun_ext (λ p. sym (b.3 e p))) in (
      l,
      (b.1, b.2, subst (λ (S : Events). Solves sh ST G S) is one.1),
      λ m h.
          events_one m l h.0 b.1 (λ e p. ap (λ (S : Events). S e p) (one.2 (events_of m) h.2 ∙ is)),
    )

-- ---- the givens of an instant, of a waiting buffer of 16 bits and of requests within their limits, are such

waits_in : (l : Lent) → Narrow 16 l.waiting → (k : ℕ) → InBuffer (waiting_of l.waiting k)
waits_in l narrow k e p h =
    let n : ℕ = EVENTS * k + e in
    let m : ℕ = get_or l.waiting n 0 in
    let b : bit m p ≡ true = and_right (ltb e EVENTS) (bit m p) h in (
      ltb-true e EVENTS (and_left (ltb e EVENTS) (bit m p) h),
      by_cases (dec_lt p PRIORITIES)
          (λ (x : p < PRIORITIES). x)
          (λ (x : ¬ (p < PRIORITIES)).
          by_cases (dec_lt n (length l.waiting))
          (λ (y : n < length l.waiting). not_both b (bit_high m 16 p (narrow n y) (omega arith)))
          (λ (y : ¬ (n < length l.waiting)).
          let z : m ≡ 0 = get_or-eq_default l.waiting 0 (omega arith) in
          not_both b (ap (λ (x : ℕ). bit x p) z ∙ bit_none p))),
    )

givens_in : (R : Rules) → GoodOrder (sheet_in R) → (q : Asked) → AllFit R.counts.roles q → (l : Lent) → Narrow 16 l.waiting → InBuffer (givens (sheet_in R) (asks q) (state_in l))
unfolding givens due sheet_of
givens_in R good q fit l narrow e p h =
    let t : ℕ = l.instant in
    let falls : ℕ → Bool = λ i. row_due (periodic_at R.tables.periodics i) t && is (periodic_at R.tables.periodics i).event (periodic_at R.tables.periodics i).priority e p in
    let waits : Bool = waiting_of l.waiting (row t) e p in
    ⊎_elim
    (λ (d : any_below R.counts.periodics falls ≡ true).
    let r = any_elim R.counts.periodics falls d in
    let w : Periodic = periodic_at R.tables.periodics r.0 in
    let k = (periodic_says R.counts.roles w).0 (good.periodics r.0 r.1) in
    let s = and_right (row_due w t) (is w.event w.priority e p) r.2 in
    let x : w.event ≡ e = eqb-true _ _ (and_left (eqb w.event e) (eqb w.priority p) s) in
    let y : w.priority ≡ p = eqb-true _ _ (and_right (eqb w.event e) (eqb w.priority p) s) in
    (omega (arith, k.event, good.few_roles), omega (arith, k.priority)))
    (λ (o : (waits || asks q 0 e p) ≡ true).
    ⊎_elim
    (λ (w : waits ≡ true). waits_in l narrow (row t) e p w)
    (λ (a : asks q 0 e p ≡ true).
    let r = asks_elim q 0 e p a in
    let k = fit_says R.counts.roles q fit r.0 r.1 in
    let x : (q.request r.0).event ≡ e = eqb-true _ _ (and_left (eqb (q.request r.0).event e) (eqb (q.request r.0).priority p) r.3) in
    let y : (q.request r.0).priority ≡ p = eqb-true _ _ (and_right (eqb (q.request r.0).event e) (eqb (q.request r.0).priority p) r.3) in
    (omega (arith, k.event, good.few_roles), omega (arith, k.priority)))
    (or_cases waits (asks q 0 e p) o))
    (or_cases (any_below R.counts.periodics falls) (waits || asks q 0 e p) h)

-- so of every instant, with any roles, any waiting buffer of 16 bits and any requests within their limits, exactly one buffer holds the solution
pub one_buffer_served : (R : Rules) → GoodOrder (sheet_in R) → NoLoop (sheet_in R) → (q : Asked) → AllFit R.counts.roles q → (l : Lent) → Narrow 16 l.waiting
    → ExactlyOne (λ (b : List ℕ). (length b ≡ EVENTS) × Narrow 16 b × Solves (sheet_in R) (roles_of l.roles) (givens (sheet_in R) (asks q) (state_in l)) (events_of b))
one_buffer_served R good nl q fit l narrow =
    one_buffer (sheet_in R) good nl (roles_of l.roles) (givens (sheet_in R) (asks q) (state_in l)) (givens_in R good q fit l narrow)
