-- The 61 rows: before instant t, row (u mod 61) holds exactly what the instants below t let wait for u, for u from t to t + 60. Delays are 1 to 60, so what comes to
-- wait never meets the instant's own row, and after it that row stands for t + 61.
-- Assumes nothing.
use Rattle.std.specs.Prelude.{◌≡◌, not, ◌&&◌, ◌||◌}
use Rattle.std.proofs.Math.Path.{refl, sym, ap, subst}
use Rattle.std.proofs.Common.{ap₂, ◌∙◌, ⊎_elim, arith}
use Rattle.std.proofs.Math.Bool.{Bool, true, false, or_comm}
use Prim.Native.Nat.{ℕ, zero, suc, ◌+◌, ◌-◌, ◌≤◌, ◌<◌}
use Rattle.std.proofs.Math.Dec.{eqb}
use borrow.Author.Tests.{eqb-true, eq-eqb, ne_eqb}
use Rattle.theory.specs.Numbers.{LONGEST_DELAY, WAITING_ROWS}
use Rattle.theory.specs.Below.{any_below}
use Rattle.theory.specs.Events.{Events, Roles}
use Rattle.theory.specs.Sheet.{Sheet}
use Rattle.theory.specs.Instant.{Requests, waits_for}
use Rattle.theory.specs.Model.{Stream, Trace}
use Rattle.theory.specs.Box.{State, row, row_after, Step, Fresh, Within, trace_of}
use Rattle.theory.proofs.Laws.Tests.{and_left, and_right, and_both, is_false, bool_ext}
use Rattle.theory.proofs.Laws.Below.{below_cases, any_intro, any_elim}
use Rattle.theory.proofs.Laws.Limits.{request_says}
use Rattle.theory.proofs.Laws.History.{Sent, waits_later, waits_cases, waits_from, waits}

-- no trigger waits longer than the longest delay
abbrev pub ShortDelays : Sheet → Type 0
ShortDelays sh = (i : ℕ) → i < sh.trigger_count → (sh.trigger i).delay ≤ LONGEST_DELAY

-- ---- the rows after a step, from any state

module _ (sh : Sheet) (asks : Requests) (st : State) (S : Events) where
  -- the instant's own row is cleared
  pub row_cleared : (e p : ℕ) → row_after sh asks st S (row st.instant) e p ≡ false
  unfolding row_after
  row_cleared e p =
      let t : ℕ = st.instant in
      let joins : ℕ → Bool = λ d. eqb (row (t + d)) (row t) && waits_for sh asks st.roles S d e p in
      let none : any_below WAITING_ROWS joins ≡ false
      = is_false (any_below WAITING_ROWS joins) (λ h.
      let r = any_elim WAITING_ROWS joins h in
      let k : row (t + r.0) ≡ row t = eqb-true _ _ (and_left (eqb (row (t + r.0)) (row t)) _ r.2) in
      omega (arith, r.1, waits_later sh asks st.roles S r.0 e p (and_right (eqb (row (t + r.0)) (row t)) _ r.2))) in
      rw (eq-eqb (row t) (row t) refl) none

  -- the row of d instants later keeps what waited there, and what comes to wait for d instants later joins it
  pub row_joined : (d e p : ℕ) → 0 < d → d < WAITING_ROWS
      → row_after sh asks st S (row (st.instant + d)) e p ≡ (st.waiting (row (st.instant + d)) e p || waits_for sh asks st.roles S d e p)
  unfolding row_after
  row_joined d e p o l =
      let t : ℕ = st.instant in
      let joins : ℕ → Bool = λ x. eqb (row (t + x)) (row (t + d)) && waits_for sh asks st.roles S x e p in
      let here : any_below WAITING_ROWS joins ≡ waits_for sh asks st.roles S d e p
      = bool_ext (any_below WAITING_ROWS joins) (waits_for sh asks st.roles S d e p)
      (λ h.
      let r = any_elim WAITING_ROWS joins h in
      let w : waits_for sh asks st.roles S r.0 e p ≡ true = and_right (eqb (row (t + r.0)) (row (t + d))) _ r.2 in
      let k : row (t + r.0) ≡ row (t + d) = eqb-true _ _ (and_left (eqb (row (t + r.0)) (row (t + d))) _ r.2) in
      let z : r.0 ≡ d = omega (arith, r.1, waits_later sh asks st.roles S r.0 e p w) in
      subst (λ (x : ℕ). waits_for sh asks st.roles S x e p ≡ true) z w)
      (λ w. any_intro WAITING_ROWS joins d l (and_both (eq-eqb (row (t + d)) (row (t + d)) refl) w)) in
      rw (ne_eqb (row (t + d)) (row t) (λ k. omega arith)) (ap (λ (b : Bool). st.waiting (row (t + d)) e p || b) here)

module _ (sh : Sheet) (RQ : Stream) (short : ShortDelays sh) (within : Within sh RQ) (tr : Trace) where
  abbrev off : ℕ → ℕ → Events
  off t d = waits_for sh (RQ t) (tr.ST t) (tr.EV t) d

  -- nothing comes to wait longer than the longest delay
  off_short : (t d e p : ℕ) → off t d e p ≡ true → d ≤ LONGEST_DELAY
  off_short t d e p h =
      ⊎_elim
      (λ (a : RQ t d e p ≡ true). ((request_says sh.role_count d e p).0 (within t d e p a)).delay)
      (λ (r : (i : ℕ) × Sent sh (tr.ST t) (tr.EV t) d e p i). omega (arith, r.1.delayed, short r.0 r.1.row))
      (waits_cases sh (RQ t) (tr.ST t) (tr.EV t) d e p h)

  -- what joins the row of u at an instant is what it lets wait for u
  joins_is : (t u e p : ℕ) → t < u → u ≤ t + WAITING_ROWS
      → any_below WAITING_ROWS (λ d. eqb (row (t + d)) (row u) && off t d e p) ≡ waits_from sh RQ tr t u e p
  joins_is t u e p l m =
      let joins : ℕ → Bool = λ d. eqb (row (t + d)) (row u) && off t d e p in
      bool_ext (any_below WAITING_ROWS joins) (off t (u - t) e p)
      (λ h.
      let r = any_elim WAITING_ROWS joins h in
      let d : ℕ = r.0 in
      let x : off t d e p ≡ true = and_right (eqb (row (t + d)) (row u)) (off t d e p) r.2 in
      let k : row (t + d) ≡ row u = eqb-true _ _ (and_left (eqb (row (t + d)) (row u)) (off t d e p) r.2) in
      let z : d ≡ u - t = omega (arith, r.1, waits_later sh (RQ t) (tr.ST t) (tr.EV t) d e p x) in
      subst (λ (n : ℕ). off t n e p ≡ true) z x)
      (λ x.
      let k : t + (u - t) ≡ u = omega arith in
      any_intro WAITING_ROWS joins (u - t) (omega (arith, off_short t (u - t) e p x)) (and_both (eq-eqb (row (t + (u - t))) (row u) (ap row k)) x))

  -- nothing waits longer
  none_later : (t u e p : ℕ) → t + LONGEST_DELAY < u → waits sh RQ tr t u e p ≡ false
  unfolding waits
  none_later t u e p l =
      is_false (any_below t (λ s. waits_from sh RQ tr s u e p)) (λ h.
      let r = any_elim t (λ s. waits_from sh RQ tr s u e p) h in
      omega (arith, r.1, off_short r.0 (u - r.0) e p r.2))

  waits_next : (t u e p : ℕ) → waits sh RQ tr (suc t) u e p ≡ (waits_from sh RQ tr t u e p || waits sh RQ tr t u e p)
  unfolding waits any_below
  waits_next t u e p = refl

  -- THE INVARIANT: the rows w stand for t to t + 60
  abbrev Stands : ℕ → (ℕ → Events) → Type 0
  Stands t w = (u e p : ℕ) → t ≤ u → u ≤ t + LONGEST_DELAY → w (row u) e p ≡ waits sh RQ tr t u e p

  -- what is kept of the row of u
  kept_is : (t : ℕ) (w : ℕ → Events) → Stands t w → (u e p : ℕ) → t < u → u ≤ t + WAITING_ROWS → (not (eqb (row u) (row t)) && w (row u) e p) ≡ waits sh RQ tr t u e p
  kept_is t w h u e p l m =
      ⊎_elim
      (λ (z : u ≡ t + WAITING_ROWS).
      let k : row u ≡ row t = omega arith in
      rw (eq-eqb (row u) (row t) k) (sym (none_later t u e p (omega arith))))
      (λ (z : u < t + WAITING_ROWS).
      let k : eqb (row u) (row t) ≡ false = ne_eqb (row u) (row t) (λ x. omega arith) in
      rw k (h u e p (omega arith) (omega arith)))
      (below_cases {n = t + WAITING_ROWS} (omega arith))

  next_stands : (t : ℕ) (st : State) (w : ℕ → Events) → st.instant ≡ t → st.roles ≡ tr.ST t → Stands t st.waiting
      → ((k e p : ℕ) → k < WAITING_ROWS → w k e p ≡ row_after sh (RQ t) st (tr.EV t) k e p) → Stands (suc t) w
  unfolding row_after
  next_stands t st w n r h f u e p l m =
      f (row u) e p (omega arith)
      ∙ (rw (n, r)
      (ap₂ (λ (a b : Bool). a || b) (kept_is t st.waiting h u e p (omega arith) (omega arith)) (joins_is t u e p (omega arith) (omega arith))
      ∙ (or_comm (waits sh RQ tr t u e p) (waits_from sh RQ tr t u e p) ∙ sym (waits_next t u e p))))

-- ---- along the steps of a box

module _ (start : Roles) (sh : Sheet) (RQ : Stream) (short : ShortDelays sh) (within : Within sh RQ) (state : ℕ → State) (events : ℕ → Events)
    (fresh : Fresh start (state 0)) (step : (t : ℕ) → Step sh (RQ t) (state t) (events t) (state (suc t))) where
  pub rows_stand : (t : ℕ) → ((state t).instant ≡ t) × ((u e p : ℕ) → t ≤ u → u ≤ t + LONGEST_DELAY → (state t).waiting (row u) e p ≡ waits sh RQ (trace_of state events) t u e p)
  unfolding waits any_below
  rows_stand zero = (fresh.instant, λ u e p _ _. fresh.waiting (row u) e p (omega arith))
  rows_stand (suc t) =
      let i = rows_stand t in (
        (step t).instant ∙ ap suc i.0,
        next_stands sh RQ short within (trace_of state events) t (state t) (state (suc t)).waiting i.0 refl i.1 (step t).waiting,
      )
