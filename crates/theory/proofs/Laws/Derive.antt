-- Caused(S) by derivations: the least closed set holds exactly what can be derived. What is derived is in every closed set; what a round reaches is derived.
-- Assumes nothing.
use Rattle.std.specs.Prelude.{◌≡◌, false, not, ◌&&◌, ◌↔◌, eqb}
use Rattle.std.proofs.Math.Path.{fun_ext, subst₂}
use Rattle.std.proofs.Common.{subst}
use Rattle.std.proofs.Math.Bool.{Bool, true}
use Rattle.std.proofs.lemmas.Bool.{false≢true}
use Rattle.std.proofs.Math.Logic.{⊎_elim}
use Prim.Native.Nat.{ℕ, zero, suc, ◌<◌}
use borrow.Author.Tests.{eqb-true, not-true}
use Rattle.theory.specs.Numbers.{PRIORITIES}
use Rattle.theory.specs.Below.{any_below, first_below}
use Rattle.theory.specs.Events.{Events, blocked, nonblocked}
use Rattle.theory.specs.Sheet.{Trigger, Sheet}
use Rattle.theory.specs.Instant.{met, Closed, IsLeast, Derives, given, fired}
use Rattle.theory.proofs.Laws.Tests.{and_left, and_right, and_both, or_cases, fails_not, bool_ext}
use Rattle.theory.proofs.Laws.Below.{any_intro, any_elim, all_intro, all_elim}
use Rattle.theory.proofs.Laws.First.{FirstAt, first_some}
use Rattle.theory.proofs.Laws.Exists.{head_is, fire, round, rounds, caused, caused_is}

-- ---- a body that is met, as a priority for each of its events

module _ (S X : Events) (g : Trigger) where
  abbrev open_at : ℕ → ℕ → Bool
  open_at j q = X (g.event j) q && not (blocked S (g.event j) q)

  -- q j is the priority of the body event j
  record Chosen (q : ℕ → ℕ) : Type 0 where
    pub narrow : (j : ℕ) → j < g.event_count → q j < PRIORITIES
    pub not_blocked : (j : ℕ) → j < g.event_count → blocked S (g.event j) (q j) ≡ false
    pub member : (j : ℕ) → j < g.event_count → X (g.event j) (q j) ≡ true

  met_intro : (q : ℕ → ℕ) → Chosen q → met S X g ≡ true
  unfolding met nonblocked
  met_intro q c =
      all_intro g.event_count (λ j. nonblocked S X (g.event j)) (λ j l.
      any_intro PRIORITIES (open_at j) (q j) (c.narrow j l) (and_both (c.member j l) (fails_not (c.not_blocked j l))))

  met_elim : met S X g ≡ true → (q : ℕ → ℕ) × Chosen q
  unfolding met nonblocked
  met_elim h =
      let q : ℕ → ℕ = λ j. first_below PRIORITIES (open_at j) in
      let is : (j : ℕ) → j < g.event_count → FirstAt PRIORITIES (open_at j) (q j)
      = λ j l. first_some PRIORITIES (open_at j) (all_elim g.event_count (λ j. nonblocked S X (g.event j)) h j l) in (
        q,
        record {
          narrow = λ j l. (is j l).below;
          not_blocked = λ j l. not-true (blocked S (g.event j) (q j)) (and_right (X (g.event j) (q j)) (not (blocked S (g.event j) (q j))) (is j l).passes);
          member = λ j l. and_left (X (g.event j) (q j)) (not (blocked S (g.event j) (q j))) (is j l).passes;
        },
      )

-- ---- the two forms are the same

module _ (sh : Sheet) (on : ℕ → Bool) (G S : Events) where
  derives_in : (X : Events) → Closed sh on G S X → {e p : ℕ} → Derives sh on G S e p → X e p ≡ true
  derives_in X c (given {e = e} {p = p} g) = c.holds_givens e p g
  derives_in X c (fired i l o q w u d) =
      c.holds_heads i l o
      (met_intro S X (sh.trigger i) q (record { narrow = w; not_blocked = u; member = λ j m. derives_in X c (d j m) }))

  rounds_derive : (m e p : ℕ) → rounds sh on G S m e p ≡ true → Derives sh on G S e p
  unfolding rounds round fire
  rounds_derive zero e p h = absurd (false≢true h)
  rounds_derive (suc m) e p h =
      let X : Events = rounds sh on G S m in
      let fires : ℕ → Bool = λ i. fire sh on S X i && head_is (sh.trigger i) e p in
      ⊎_elim
      (λ (g : G e p ≡ true). given g)
      (λ (b : any_below sh.trigger_count fires ≡ true).
      let r = any_elim sh.trigger_count fires b in
      let i : ℕ = r.0 in
      let g : Trigger = sh.trigger i in
      let f : (on i && met S X g) ≡ true = and_left (fire sh on S X i) (head_is g e p) r.2 in
      let k : head_is g e p ≡ true = and_right (fire sh on S X i) (head_is g e p) r.2 in
      let x = met_elim S X g (and_right (on i) (met S X g) f) in
      subst₂ (λ (a b : ℕ). Derives sh on G S a b)
      (eqb-true g.head e (and_left (eqb g.head e) (eqb g.priority p) k))
      (eqb-true g.priority p (and_right (eqb g.head e) (eqb g.priority p) k))
      (fired i r.1 (and_left (on i) (met S X g) f) x.0 x.1.narrow x.1.not_blocked
      (λ j l. rounds_derive m (g.event j) (x.0 j) (x.1.member j l))))
      (or_cases (G e p) (any_below sh.trigger_count fires) h)

  -- THE THEOREM, one way: the least closed set is what has a derivation
  pub caused_derives : (X : Events) → IsLeast sh on G S X → (e p : ℕ) → (X e p ≡ true) ↔ Derives sh on G S e p
  unfolding caused
  caused_derives X c e p = (
    (λ h. rounds_derive (suc sh.trigger_count) e p (c.least (caused sh on G S) (caused_is sh on G S).closed e p h)),
    (λ d. derives_in X c.closed d),
  )

  -- THE THEOREM, the other way: what has a derivation is the least closed set
  pub derives_least : (X : Events) → ((e p : ℕ) → (X e p ≡ true) ↔ Derives sh on G S e p) → IsLeast sh on G S X
  derives_least X h =
      let c = caused_derives (caused sh on G S) (caused_is sh on G S) in
      let same : caused sh on G S ≡ X
      = fun_ext (λ e. fun_ext (λ p. bool_ext (caused sh on G S e p) (X e p) (λ k. (h e p).1 ((c e p).0 k)) (λ k. (c e p).1 ((h e p).0 k)))) in
      subst (λ (Y : Events). IsLeast sh on G S Y) same (caused_is sh on G S)
