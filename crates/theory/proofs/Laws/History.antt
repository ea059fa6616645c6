-- EV(t) = Caused(t) at every t, as the execution model asks, exactly where each instant solves its own equation, whose givens are what is due, what earlier instants let wait for it, and its requests of delay 0.
-- From the model to an instant, hand the family's `least` the family that is EV before, any closed set at it, and everything after.
-- Assumes nothing.
use Rattle.std.specs.Prelude.{◌≡◌, false, not, cond, ◌&&◌, ◌||◌, ◌⊎◌, eqb, ltb}
use Rattle.std.proofs.Math.Path.{refl, fun_ext, subst}
use Rattle.std.proofs.Common.{sym, ap, ◌∙◌, subst₂, eq-zero-or-pos}
use Rattle.std.proofs.Math.Bool.{Bool, true}
use Rattle.std.proofs.Math.Logic.{inl, inr, ⊎_elim}
use Prim.Native.Nat.{ℕ, zero, suc, ◌-◌, ◌≤◌, ◌<◌}
use native.Mathlib.Omega.{arith}
use borrow.Author.Tests.{eqb-true, eq-eqb, ne_eqb, ltb-true, ltb-false, lt-ltb, le-ltb}
use Rattle.theory.specs.Below.{any_below}
use Rattle.theory.specs.Events.{Events, Roles, Part}
use Rattle.theory.specs.Sheet.{Trigger, Sheet, due}
use Rattle.theory.specs.Instant.{Requests, allows, met, ready, Closed, Solves, waits_for}
use Rattle.theory.specs.Model.{Stream, Trace, Meets, IsCausedIn}
use Rattle.theory.proofs.Laws.Tests.{and_left, and_right, and_both, or_left, or_right, or_cases, test}
use Rattle.theory.proofs.Laws.Below.{below_cases, any_intro, any_elim}
use Rattle.theory.proofs.Laws.Instant.{met_mono}
use Rattle.theory.proofs.Laws.Exists.{head_is, is_self}

-- ---- what comes to wait for d instants later

-- trigger i of delay d, with conditions and body met, has the head p:e
pub record Sent (sh : Sheet) (ST : Roles) (S : Events) (d e p i : ℕ) : Type 0 where
  pub row : i < sh.trigger_count
  pub delayed : (sh.trigger i).delay ≡ d
  pub allowed : allows ST (sh.trigger i) ≡ true
  pub body_met : met S S (sh.trigger i) ≡ true
  pub event : (sh.trigger i).head ≡ e
  pub priority : (sh.trigger i).priority ≡ p

module _ (sh : Sheet) (asks : Requests) (ST : Roles) (S : Events) where
  abbrev sends : ℕ → ℕ → Bool
  sends d i = eqb (sh.trigger i).delay d && (allows ST (sh.trigger i) && met S S (sh.trigger i))

  abbrev sent : ℕ → ℕ → ℕ → Bool
  sent d e p = any_below sh.trigger_count (λ i. sends d i && head_is (sh.trigger i) e p)

  pub waits_asked : (d e p : ℕ) → 0 < d → asks d e p ≡ true → waits_for sh asks ST S d e p ≡ true
  unfolding waits_for
  waits_asked d e p o h = and_both (lt-ltb 0 d o) (or_left (sent d e p) h)

  pub waits_head : (d i : ℕ) → 0 < d → i < sh.trigger_count → (sh.trigger i).delay ≡ d → allows ST (sh.trigger i) ≡ true → met S S (sh.trigger i) ≡ true
      → waits_for sh asks ST S d (sh.trigger i).head (sh.trigger i).priority ≡ true
  unfolding waits_for
  waits_head d i o l z a m =
      let e : ℕ = (sh.trigger i).head in
      let p : ℕ = (sh.trigger i).priority in
      and_both (lt-ltb 0 d o)
      (or_right (asks d e p)
      (any_intro sh.trigger_count (λ k. sends d k && head_is (sh.trigger k) e p) i l
      (and_both (and_both (eq-eqb _ _ z) (and_both a m)) (is_self e p))))

  pub waits_later : (d e p : ℕ) → waits_for sh asks ST S d e p ≡ true → 0 < d
  unfolding waits_for
  waits_later d e p h = ltb-true 0 d (and_left (ltb 0 d) _ h)

  pub waits_cases : (d e p : ℕ) → waits_for sh asks ST S d e p ≡ true → (asks d e p ≡ true) ⊎ ((i : ℕ) × Sent sh ST S d e p i)
  unfolding waits_for
  waits_cases d e p h =
      let by : ℕ → Bool = λ i. sends d i && head_is (sh.trigger i) e p in
      ⊎_elim
      (λ (a : asks d e p ≡ true). inl a)
      (λ (b : any_below sh.trigger_count by ≡ true).
      let r = any_elim sh.trigger_count by b in
      let i : ℕ = r.0 in
      let g : Trigger = sh.trigger i in
      let u : sends d i ≡ true = and_left (sends d i) (head_is g e p) r.2 in
      let v : head_is g e p ≡ true = and_right (sends d i) (head_is g e p) r.2 in
      let x : (allows ST g && met S S g) ≡ true = and_right (eqb g.delay d) _ u in
      inr (
        i,
        record {
          row = r.1;
          delayed = eqb-true _ _ (and_left (eqb g.delay d) _ u);
          allowed = and_left (allows ST g) (met S S g) x;
          body_met = and_right (allows ST g) (met S S g) x;
          event = eqb-true _ _ (and_left (eqb g.head e) (eqb g.priority p) v);
          priority = eqb-true _ _ (and_right (eqb g.head e) (eqb g.priority p) v);
        },
      ))
      (or_cases (asks d e p) (any_below sh.trigger_count by) (and_right (ltb 0 d) _ h))

-- ---- the givens of an instant of a trace

-- what instant s of the trace lets wait for u
abbrev pub waits_from : Sheet → Stream → Trace → ℕ → ℕ → Events
waits_from sh RQ tr s u = waits_for sh (RQ s) (tr.ST s) (tr.EV s) (u - s)

-- what the instants below t let wait for u
unfoldable pub waits : Sheet → Stream → Trace → ℕ → ℕ → Events
waits sh RQ tr t u e p = any_below t (λ s. waits_from sh RQ tr s u e p)

unfoldable pub givens_at : Sheet → Stream → Trace → ℕ → Events
givens_at sh RQ tr t e p = due sh t e p || (waits sh RQ tr t t e p || RQ t 0 e p)

-- the equation of instant t
abbrev pub SolvesAt : Sheet → Stream → Trace → ℕ → Type 0
SolvesAt sh RQ tr t = Solves sh (tr.ST t) (givens_at sh RQ tr t) (tr.EV t)

module _ (sh : Sheet) (RQ : Stream) (tr : Trace) where
  given_due : (t : ℕ) → Part (due sh t) (givens_at sh RQ tr t)
  unfolding givens_at
  given_due t e p h = or_left (waits sh RQ tr t t e p || RQ t 0 e p) h

  given_asked : (t : ℕ) → Part (RQ t 0) (givens_at sh RQ tr t)
  unfolding givens_at
  given_asked t e p h = or_right (due sh t e p) (or_right (waits sh RQ tr t t e p) h)

  given_waits : (s t : ℕ) → s < t → Part (waits_from sh RQ tr s t) (givens_at sh RQ tr t)
  unfolding givens_at waits
  given_waits s t l e p h =
      or_right (due sh t e p)
      (or_left (RQ t 0 e p) (any_intro t (λ s. waits_from sh RQ tr s t e p) s l h))

  -- ---- a family that meets the conditions is closed at each instant, once it holds what was there before

  module _ (X : ℕ → Events) (m : Meets sh RQ tr X) (t : ℕ) (past : (s : ℕ) → s < t → Part (tr.EV s) (X s)) where
    waits_there : (s e p : ℕ) → s < t → waits_from sh RQ tr s t e p ≡ true → X t e p ≡ true
    waits_there s e p l h =
        ⊎_elim
        (λ (a : RQ s (t - s) e p ≡ true).
        let k : s ≡ t - (t - s) = omega arith in
        m.request t (t - s) e p (omega arith) (subst (λ (x : ℕ). RQ x (t - s) e p ≡ true) k a))
        (λ (r : (i : ℕ) × Sent sh (tr.ST s) (tr.EV s) (t - s) e p i).
        let i : ℕ = r.0 in
        let x = r.1 in
        let k : t - (sh.trigger i).delay ≡ s = omega (arith, x.delayed) in
        subst₂ (λ (y z : ℕ). X t y z ≡ true) x.event x.priority
        (m.trigger t i x.row (omega (arith, x.delayed)) (rw k x.allowed) (rw k (met_mono (tr.EV s) (tr.EV s) (X s) (sh.trigger i) (past s l) x.body_met))))
        (waits_cases sh (RQ s) (tr.ST s) (tr.EV s) (t - s) e p h)

    givens_there : Part (givens_at sh RQ tr t) (X t)
    unfolding givens_at waits
    givens_there e p g =
        ⊎_elim
        (λ (h : due sh t e p ≡ true). m.periodic t e p h)
        (λ (h : (waits sh RQ tr t t e p || RQ t 0 e p) ≡ true).
        ⊎_elim
        (λ (b : waits sh RQ tr t t e p ≡ true).
        let r = any_elim t (λ s. waits_from sh RQ tr s t e p) b in
        waits_there r.0 e p r.1 r.2)
        (λ (b : RQ t 0 e p ≡ true). let k : t - 0 ≡ t = omega arith in m.request t 0 e p (omega arith) (rw k b))
        (or_cases (waits sh RQ tr t t e p) (RQ t 0 e p) h))
        (or_cases (due sh t e p) (waits sh RQ tr t t e p || RQ t 0 e p) g)

    meets_closed : Closed sh (ready sh (tr.ST t)) (givens_at sh RQ tr t) (tr.EV t) (X t)
    unfolding ready
    meets_closed =
        record {
          holds_givens = givens_there;
          holds_heads = λ i l o b.
              let g : Trigger = sh.trigger i in
              let z : g.delay ≡ 0 = eqb-true _ _ (and_left (eqb g.delay 0) (allows (tr.ST t) g) o) in
              let k : t - g.delay ≡ t = omega arith in
              m.trigger t i l (omega arith) (rw k (and_right (eqb g.delay 0) (allows (tr.ST t) g) o)) (rw k b);
        }

  -- ---- from the instants to the model

  module _ (h : (t : ℕ) → SolvesAt sh RQ tr t) where
    -- p:e is there at t if it came to wait for it d instants before
    from_before : (t d e p : ℕ) → d ≤ t → 0 < d → waits_for sh (RQ (t - d)) (tr.ST (t - d)) (tr.EV (t - d)) d e p ≡ true → tr.EV t e p ≡ true
    from_before t d e p l o x =
        let k : d ≡ t - (t - d) = omega arith in
        (h t).closed.holds_givens e p
        (given_waits (t - d) t (omega arith) e p (subst (λ (n : ℕ). waits_for sh (RQ (t - d)) (tr.ST (t - d)) (tr.EV (t - d)) n e p ≡ true) k x))

    solves_meets : Meets sh RQ tr tr.EV
    unfolding ready
    solves_meets =
        record {
          periodic = λ t e p x. (h t).closed.holds_givens e p (given_due t e p x);
          request = λ t d e p l x.
              ⊎_elim
              (λ (o : d ≡ 0).
              let k : t - d ≡ t = omega arith in
              (h t).closed.holds_givens e p (given_asked t e p (rw o at (rw k at x))))
              (λ (o : 0 < d). from_before t d e p l o (waits_asked sh (RQ (t - d)) (tr.ST (t - d)) (tr.EV (t - d)) d e p o x))
              (eq-zero-or-pos d);
          trigger = λ t i l dl al b.
              let g : Trigger = sh.trigger i in
              let s : ℕ = t - g.delay in
              ⊎_elim
              (λ (o : g.delay ≡ 0).
              let k : s ≡ t = omega arith in
              (h t).closed.holds_heads i l (and_both (eq-eqb g.delay 0 o) (rw k at al)) (rw k at b))
              (λ (o : 0 < g.delay). from_before t g.delay g.head g.priority dl o (waits_head sh (RQ s) (tr.ST s) (tr.EV s) g.delay i o l refl al b))
              (eq-zero-or-pos g.delay);
        }

    least_below : (Y : ℕ → Events) → Meets sh RQ tr Y → (k t : ℕ) → t < k → Part (tr.EV t) (Y t)
    least_below Y y zero t l = absurd (omega arith)
    least_below Y y (suc k) t l =
        ⊎_elim
        (λ (z : t ≡ k). (h t).least (Y t) (meets_closed Y y t (λ s m. least_below Y y k s (omega arith))))
        (λ (z : t < k). least_below Y y k t z)
        (below_cases l)

    -- THE THEOREM, one way: a trace that solves each instant has EV(t) = Caused(t) at every t
    pub solves_caused : IsCausedIn sh RQ tr tr.EV
    solves_caused = record { meets = solves_meets; least = λ Y y t e p x. least_below Y y (suc t) t (omega arith) e p x }

  -- ---- from the model to the instants

  -- EV before t, Y at t, and everything after
  with_at : ℕ → Events → ℕ → Events
  with_at t Y s e p = cond (ltb s t) (tr.EV s e p) (not (eqb s t) || Y e p)

  with_before : (t : ℕ) (Y : Events) (s : ℕ) → s < t → with_at t Y s ≡ tr.EV s
  unfolding with_at
  with_before t Y s l = fun_ext (λ e. fun_ext (λ p. rw (lt-ltb s t l) refl))

  with_it : (t : ℕ) (Y : Events) → with_at t Y t ≡ Y
  unfolding with_at
  with_it t Y = fun_ext (λ e. fun_ext (λ p. rw (le-ltb t t (omega arith), eq-eqb t t refl) refl))

  with_after : (t : ℕ) (Y : Events) (s e p : ℕ) → t < s → with_at t Y s e p ≡ true
  unfolding with_at
  with_after t Y s e p l = rw (le-ltb s t (omega arith), ne_eqb s t (λ z. omega arith)) refl

  with_in : (t : ℕ) (Y : Events) (s e p : ℕ) → (s < t → tr.EV s e p ≡ true) → (s ≡ t → Y e p ≡ true) → with_at t Y s e p ≡ true
  with_in t Y s e p f g =
      ⊎_elim
      (λ (h : ltb s t ≡ true). let l : s < t = ltb-true s t h in ap (λ (X : Events). X e p) (with_before t Y s l) ∙ f l)
      (λ (h : ltb s t ≡ false).
      ⊎_elim
      (λ (k : ltb t s ≡ true). with_after t Y s e p (ltb-true t s k))
      (λ (k : ltb t s ≡ false).
      let z : s ≡ t = omega (arith, ltb-false s t h, ltb-false t s k) in
      ap (λ (x : ℕ). with_at t Y x e p) z ∙ (ap (λ (X : Events). X e p) (with_it t Y) ∙ g z))
      (test (ltb t s)))
      (test (ltb s t))

  module _ (caused : IsCausedIn sh RQ tr tr.EV) (t : ℕ) where
    abbrev m : Meets sh RQ tr tr.EV
    m = caused.meets

    with_meets : (Y : Events) → Closed sh (ready sh (tr.ST t)) (givens_at sh RQ tr t) (tr.EV t) Y → Meets sh RQ tr (with_at t Y)
    unfolding ready
    with_meets Y y =
        record {
          periodic = λ s e p h. with_in t Y s e p (λ _. m.periodic s e p h) (λ z. y.holds_givens e p (given_due t e p (rw z at h)));
          request = λ s d e p k h.
              with_in t Y s e p
              (λ _. m.request s d e p k h)
              (λ z.
              ⊎_elim
              (λ (o : d ≡ 0). let x : s - d ≡ t = omega arith in y.holds_givens e p (given_asked t e p (rw o at (rw x at h))))
              (λ (o : 0 < d).
              let r : ℕ = s - d in
              let x : d ≡ t - r = omega arith in
              y.holds_givens e p
              (given_waits r t (omega arith) e p
              (subst (λ (n : ℕ). waits_for sh (RQ r) (tr.ST r) (tr.EV r) n e p ≡ true) x (waits_asked sh (RQ r) (tr.ST r) (tr.EV r) d e p o h))))
              (eq-zero-or-pos d));
          trigger = λ s i l k al b.
              let g : Trigger = sh.trigger i in
              let r : ℕ = s - g.delay in
              let before : r < t → met (tr.EV r) (tr.EV r) g ≡ true
              = λ v. subst (λ (X : Events). met (tr.EV r) X g ≡ true) (with_before t Y r v) b in
              with_in t Y s g.head g.priority
              (λ v. m.trigger s i l k al (before (omega arith)))
              (λ z.
              ⊎_elim
              (λ (o : g.delay ≡ 0).
              let x : r ≡ t = omega arith in
              y.holds_heads i l
              (and_both (eq-eqb g.delay 0 o) (subst (λ (a : ℕ). allows (tr.ST a) g ≡ true) x al))
              (subst (λ (X : Events). met (tr.EV t) X g ≡ true) (with_it t Y) (subst (λ (a : ℕ). met (tr.EV a) (with_at t Y a) g ≡ true) x b)))
              (λ (o : 0 < g.delay).
              let x : g.delay ≡ t - r = omega arith in
              y.holds_givens g.head g.priority
              (given_waits r t (omega arith) g.head g.priority (waits_head sh (RQ r) (tr.ST r) (tr.EV r) (t - r) i (omega arith) l x al (before (omega arith)))))
              (eq-zero-or-pos g.delay));
        }

    -- THE THEOREM, the other way: where EV(t) = Caused(t) at every t, each instant solves its equation
    pub caused_solves : SolvesAt sh RQ tr t
    caused_solves =
        record {
          closed = meets_closed tr.EV m t (λ s l e p h. h);
          least = λ Y y e p h. ap (λ (X : Events). X e p) (sym (with_it t Y)) ∙ caused.least (with_at t Y) (with_meets Y y) t e p h;
        }
