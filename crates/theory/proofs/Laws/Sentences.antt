-- Document 01's sentences on events, blocking, due, edges and the roles after, once more as statements about numbers: each says what a definition's test means, so that a
-- definition that says something else is refused here.
-- Assumes nothing.
use Rattle.std.specs.Prelude.{◌≡◌, refl, ◌⊎◌, ◌↔◌, Bool, true, false, not, ◌&&◌, ◌||◌, ℕ, ◌+◌, ◌-◌, ◌*◌, ◌/◌, ◌%◌, ◌≤◌, ◌<◌, leb, ltb, eqb}
use Rattle.std.proofs.Common.{sym, ap, ◌∙◌, subst₂, inl, inr, ⊎_elim, arith, ltb-true, lt-ltb, leb-true, leb-false, le-leb, eqb-true, eq-eqb, ne_eqb}
use Rattle.std.proofs.Math.Bool.{and-true, or-false}
use Rattle.std.proofs.lemmas.Bool.{not-true}
use Rattle.theory.specs.Numbers.{PRIORITIES, NO_END}
use Rattle.theory.specs.Events.{Events, Roles, disable, enable, odd, conf, holds, blocks, blocked, nonblocked}
use Rattle.theory.specs.Sheet.{Periodic, Trigger, Sheet, is, until_end, row_due, due}
use Rattle.theory.specs.Instant.{Requests, allows, met, waits_for, roles_after}
use Rattle.theory.specs.Graph.{counts, node, drawn, plus, minus}
use Rattle.theory.specs.Below.{any_below}
use Rattle.theory.specs.Box.{State, givens, row_after}
use Rattle.theory.proofs.Laws.Tests.{and_left, and_right, and_both, or_left, or_right, or_cases, test, is_false, not_both, fails_not}
use Rattle.theory.proofs.Laws.Below.{any_intro, any_elim, all_intro, all_elim}
use Rattle.theory.proofs.Laws.Graph.{counts_says, drawn_by, drawn_elim}
use Rattle.theory.proofs.Laws.History.{Sent, waits_asked, waits_head, waits_later, waits_cases}

-- ---- numbers of events and conditions

odd_enable : (r : ℕ) → odd (enable r) ≡ true
odd_enable r = eq-eqb (enable r % 2) 1 (omega arith)

odd_disable : (r : ℕ) → odd (disable r) ≡ false
odd_disable r = ne_eqb (disable r % 2) 1 (λ h. omega arith)

-- the conflicting event has the same role and the other low bit
pub conf_enable : (r : ℕ) → conf (enable r) ≡ disable r
unfolding conf
conf_enable r = rw (odd_enable r) (omega arith)

pub conf_disable : (r : ℕ) → conf (disable r) ≡ enable r
unfolding conf
conf_disable r = rw (odd_disable r) refl

-- 2 × role + 1 is "enabled", 2 × role "not enabled"
pub holds_enabled : (ST : Roles) (r : ℕ) → holds ST (2 * r + 1) ≡ ST r
unfolding holds
holds_enabled ST r = let k : (2 * r + 1) / 2 ≡ r = omega arith in rw (odd_enable r) (ap ST k)

pub holds_not_enabled : (ST : Roles) (r : ℕ) → holds ST (2 * r) ≡ not (ST r)
unfolding holds
holds_not_enabled ST r = let k : 2 * r / 2 ≡ r = omega arith in rw (odd_disable r) (ap (λ (x : ℕ). not (ST x)) k)

-- ---- blocked

blocks_enable : (r q p : ℕ) → blocks (enable r) q p ≡ leb p q
unfolding blocks
blocks_enable r q p = rw (odd_enable r) refl

blocks_disable : (r q p : ℕ) → blocks (disable r) q p ≡ ltb p q
unfolding blocks
blocks_disable r q p = rw (odd_disable r) refl

-- p:enable R is blocked when q:disable R is in S with q ≥ p
pub enable_blocked : (S : Events) (r p : ℕ) → (blocked S (enable r) p ≡ true) ↔ ((q : ℕ) × (q < PRIORITIES) × (S (disable r) q ≡ true) × (p ≤ q))
unfolding blocked
enable_blocked S r p =
    let by : ℕ → Bool = λ q. S (conf (enable r)) q && blocks (enable r) q p in
    let at : (q : ℕ) → S (conf (enable r)) q ≡ S (disable r) q = λ q. ap (λ (e : ℕ). S e q) (conf_enable r) in (
      (λ h.
          let x = any_elim PRIORITIES by h in
          let q : ℕ = x.0 in
          (q, x.1, sym (at q) ∙ and_left (S (conf (enable r)) q) (blocks (enable r) q p) x.2, leb-true p q (sym (blocks_enable r q p) ∙ and_right (S (conf (enable r)) q) (blocks (enable r) q p) x.2))),
      (λ x. any_intro PRIORITIES by x.0 x.1 (and_both (at x.0 ∙ x.2) (blocks_enable r x.0 p ∙ le-leb p x.0 x.3))),
    )

-- p:disable R is blocked when q:enable R is in S with q > p
pub disable_blocked : (S : Events) (r p : ℕ) → (blocked S (disable r) p ≡ true) ↔ ((q : ℕ) × (q < PRIORITIES) × (S (enable r) q ≡ true) × (p < q))
unfolding blocked
disable_blocked S r p =
    let by : ℕ → Bool = λ q. S (conf (disable r)) q && blocks (disable r) q p in
    let at : (q : ℕ) → S (conf (disable r)) q ≡ S (enable r) q = λ q. ap (λ (e : ℕ). S e q) (conf_disable r) in (
      (λ h.
          let x = any_elim PRIORITIES by h in
          let q : ℕ = x.0 in
          (q, x.1, sym (at q) ∙ and_left (S (conf (disable r)) q) (blocks (disable r) q p) x.2, ltb-true p q (sym (blocks_disable r q p) ∙ and_right (S (conf (disable r)) q) (blocks (disable r) q p) x.2))),
      (λ x. any_intro PRIORITIES by x.0 x.1 (and_both (at x.0 ∙ x.2) (blocks_disable r x.0 p ∙ lt-ltb p x.0 x.3))),
    )

-- E has a member in X that S does not block
pub nonblocked_says : (S X : Events) (e : ℕ) → (nonblocked S X e ≡ true) ↔ ((q : ℕ) × (q < PRIORITIES) × (X e q ≡ true) × (blocked S e q ≡ false))
unfolding nonblocked
nonblocked_says S X e =
    let at : ℕ → Bool = λ q. X e q && not (blocked S e q) in (
      (λ h.
          let x = any_elim PRIORITIES at h in
          let q : ℕ = x.0 in
          (q, x.1, and_left (X e q) (not (blocked S e q)) x.2, not-true (blocked S e q) (and_right (X e q) (not (blocked S e q)) x.2))),
      (λ x. any_intro PRIORITIES at x.0 x.1 (and_both x.2 (fails_not x.3))),
    )

-- an enable and the disable of one role are never both nonblocked in a set
pub never_both : (S : Events) (r : ℕ) → nonblocked S S (enable r) ≡ true → nonblocked S S (disable r) ≡ true → ⊥
never_both S r h k =
    let x = (nonblocked_says S S (enable r)).0 h in
    let y = (nonblocked_says S S (disable r)).0 k in
    let p : ℕ = x.0 in
    let q : ℕ = y.0 in
    ⊎_elim
    (λ (t : leb p q ≡ true). not_both ((enable_blocked S r p).1 (q, y.1, y.2, leb-true p q t)) x.3)
    (λ (f : leb p q ≡ false). not_both ((disable_blocked S r q).1 (p, x.1, x.2, leb-false p q f)) y.3)
    (test (leb p q))

-- ---- the roles after

-- roles with a nonblocked enable in S are added
pub after_adds : (ST : Roles) (S : Events) (r : ℕ) → nonblocked S S (enable r) ≡ true → roles_after ST S r ≡ true
unfolding roles_after
after_adds ST S r h = and_both (or_right (ST r) h) (fails_not (is_false (nonblocked S S (disable r)) (λ k. never_both S r h k)))

-- roles with a nonblocked disable removed
pub after_removes : (ST : Roles) (S : Events) (r : ℕ) → nonblocked S S (disable r) ≡ true → roles_after ST S r ≡ false
unfolding roles_after
after_removes ST S r h =
    is_false ((ST r || nonblocked S S (enable r)) && not (nonblocked S S (disable r))) (λ k.
    not_both h (not-true (nonblocked S S (disable r)) (and_right (ST r || nonblocked S S (enable r)) _ k)))

-- others kept
pub after_keeps : (ST : Roles) (S : Events) (r : ℕ) → nonblocked S S (enable r) ≡ false → nonblocked S S (disable r) ≡ false → roles_after ST S r ≡ ST r
unfolding roles_after
after_keeps ST S r h k = rw (h, k) (and-true (ST r || false) ∙ or-false (ST r))

-- ---- due

-- begin ≤ t ≤ end, or no end, and (t + period − first) mod period < run
pub row_due_says : (w : Periodic) (t : ℕ) → (row_due w t ≡ true)
    ↔ ((w.begin ≤ t) × ((t ≤ w.end) ⊎ (w.end ≡ NO_END)) × ((t + w.period - w.first) % w.period < w.run))
unfolding row_due until_end
row_due_says w t =
    let a : Bool = leb w.begin t in
    let b : Bool = leb t w.end || eqb w.end NO_END in
    let c : Bool = ltb ((t + w.period - w.first) % w.period) w.run in (
      (λ h.
          let ab : (a && b) ≡ true = and_left (a && b) c h in (
            leb-true _ _ (and_left a b ab),
            ⊎_elim
                (λ (u : leb t w.end ≡ true). inl (leb-true _ _ u))
                (λ (v : eqb w.end NO_END ≡ true). inr (eqb-true _ _ v))
                (or_cases (leb t w.end) (eqb w.end NO_END) (and_right a b ab)),
            ltb-true _ _ (and_right (a && b) c h),
          )),
      (λ x.
          and_both
          (and_both (le-leb _ _ x.0)
          (⊎_elim
          (λ (u : t ≤ w.end). or_left (eqb w.end NO_END) (le-leb _ _ u))
          (λ (v : w.end ≡ NO_END). or_right (leb t w.end) (eq-eqb _ _ v))
          x.1))
          (lt-ltb _ _ x.2)),
    )

-- p:e is due when it is the event and priority of a row that is
pub due_says : (sh : Sheet) (t e p : ℕ) → (due sh t e p ≡ true)
    ↔ ((i : ℕ) × (i < sh.periodic_count) × (row_due (sh.periodic i) t ≡ true) × ((sh.periodic i).event ≡ e) × ((sh.periodic i).priority ≡ p))
unfolding due
due_says sh t e p =
    let w : ℕ → Periodic = sh.periodic in
    let by : ℕ → Bool = λ i. row_due (w i) t && is (w i).event (w i).priority e p in (
      (λ h.
          let x = any_elim sh.periodic_count by h in
          let i : ℕ = x.0 in
          let k : is (w i).event (w i).priority e p ≡ true = and_right (row_due (w i) t) _ x.2 in
          (i, x.1, and_left (row_due (w i) t) _ x.2, eqb-true _ _ (and_left (eqb (w i).event e) _ k), eqb-true _ _ (and_right (eqb (w i).event e) _ k))),
      (λ x. any_intro sh.periodic_count by x.0 x.1 (and_both x.2 (and_both (eq-eqb _ _ x.3) (eq-eqb _ _ x.4)))),
    )

-- ---- conditions and givens

-- the conditions all hold
pub allows_says : (ST : Roles) (g : Trigger) → (allows ST g ≡ true) ↔ ((j : ℕ) → j < g.condition_count → holds ST (g.condition j) ≡ true)
unfolding allows
allows_says ST g = (all_elim g.condition_count (λ j. holds ST (g.condition j)), all_intro g.condition_count (λ j. holds ST (g.condition j)))

-- the due periodic events, the events waiting for this instant, and the requests with delay 0
pub givens_says : (sh : Sheet) (asks : Requests) (st : State) (e p : ℕ) → (givens sh asks st e p ≡ true)
    ↔ ((due sh st.instant e p ≡ true) ⊎ ((st.waiting (st.instant % 61) e p ≡ true) ⊎ (asks 0 e p ≡ true)))
unfolding givens
givens_says sh asks st e p =
    let a : Bool = due sh st.instant e p in
    let b : Bool = st.waiting (st.instant % 61) e p in
    let c : Bool = asks 0 e p in (
      (λ h. ⊎_elim (λ (x : a ≡ true). inl x) (λ (y : (b || c) ≡ true). inr (or_cases b c y)) (or_cases a (b || c) h)),
      ⊎_elim
          (λ (x : a ≡ true). or_left (b || c) x)
          (λ (y : (b ≡ true) ⊎ (c ≡ true)). or_right a (⊎_elim (λ (u : b ≡ true). or_left c u) (λ (v : c ≡ true). or_right b v) y)),
    )

-- ---- bodies, and what waits

-- Each body event E has some q:E that is in X and that S does not block: the first of the two sets is the one that blocks, the second the one that holds.
pub met_says : (S X : Events) (g : Trigger) → (met S X g ≡ true)
    ↔ ((j : ℕ) → j < g.event_count → (q : ℕ) × (q < PRIORITIES) × (X (g.event j) q ≡ true) × (blocked S (g.event j) q ≡ false))
unfolding met
met_says S X g = (
  (λ h j l. (nonblocked_says S X (g.event j)).0 (all_elim g.event_count (λ i. nonblocked S X (g.event i)) h j l)),
  (λ x. all_intro g.event_count (λ i. nonblocked S X (g.event i)) (λ j l. (nonblocked_says S X (g.event j)).1 (x j l))),
)

-- p:e comes to wait for d instants later, d > 0, when it is asked for with delay d, or is the head of a trigger of delay d whose conditions all hold and whose body is met: the solution S
-- is both the set that holds and the set that blocks
pub waits_says : (sh : Sheet) (asks : Requests) (ST : Roles) (S : Events) (d e p : ℕ) → (waits_for sh asks ST S d e p ≡ true)
    ↔ ((0 < d) × ((asks d e p ≡ true) ⊎ ((i : ℕ) × Sent sh ST S d e p i)))
waits_says sh asks ST S d e p = (
  (λ h. (waits_later sh asks ST S d e p h, waits_cases sh asks ST S d e p h)),
  (λ x.
      ⊎_elim
      (λ (a : asks d e p ≡ true). waits_asked sh asks ST S d e p x.0 a)
      (λ (r : (i : ℕ) × Sent sh ST S d e p i).
      let i : ℕ = r.0 in
      subst₂ (λ (v q : ℕ). waits_for sh asks ST S d v q ≡ true) r.1.event r.1.priority
      (waits_head sh asks ST S d i x.0 r.1.row r.1.delayed r.1.allowed r.1.body_met))
      x.1),
)

-- After the instant p:e waits in row k when it waited there and k is not the instant's own row, which is cleared; or when row k is that of d instants later, d from 1 to 60, and p:e comes
-- to wait for d instants later.
pub row_after_says : (sh : Sheet) (asks : Requests) (st : State) (S : Events) (k e p : ℕ) → (row_after sh asks st S k e p ≡ true)
    ↔ (((k ≡ st.instant % 61 → ⊥) × (st.waiting k e p ≡ true))
    ⊎ ((d : ℕ) × (1 ≤ d) × (d ≤ 60) × ((st.instant + d) % 61 ≡ k) × (waits_for sh asks st.roles S d e p ≡ true)))
unfolding row_after
row_after_says sh asks st S k e p =
    let t : ℕ = st.instant in
    let own : Bool = eqb k (t % 61) in
    let was : Bool = st.waiting k e p in
    let comes : ℕ → Bool = λ d. waits_for sh asks st.roles S d e p in
    let joins : ℕ → Bool = λ d. eqb ((t + d) % 61) k && comes d in (
      (λ h.
          ⊎_elim
          (λ (a : (not own && was) ≡ true). inl ((λ x. not_both (eq-eqb k (t % 61) x) (not-true own (and_left (not own) was a))), and_right (not own) was a))
          (λ (b : any_below 61 joins ≡ true).
          let r = any_elim 61 joins b in
          let d : ℕ = r.0 in
          let w : comes d ≡ true = and_right (eqb ((t + d) % 61) k) (comes d) r.2 in
          inr (d, waits_later sh asks st.roles S d e p w, omega (arith, r.1), eqb-true _ _ (and_left (eqb ((t + d) % 61) k) (comes d) r.2), w))
          (or_cases (not own && was) (any_below 61 joins) h)),
      ⊎_elim
          (λ (x : (k ≡ t % 61 → ⊥) × (was ≡ true)). or_left (any_below 61 joins) (and_both (fails_not (ne_eqb k (t % 61) x.0)) x.1))
          (λ (y : (d : ℕ) × (1 ≤ d) × (d ≤ 60) × ((t + d) % 61 ≡ k) × (comes d ≡ true)).
          or_right (not own && was) (any_intro 61 joins y.0 (omega (arith, y.2)) (and_both (eq-eqb _ _ y.3) y.4))),
    )

-- ---- edges

-- nodes are the head events of triggers with delay 0
pub node_says : (sh : Sheet) (e : ℕ) → (node sh e ≡ true) ↔ ((i : ℕ) × (i < sh.trigger_count) × ((sh.trigger i).delay ≡ 0) × ((sh.trigger i).head ≡ e))
unfolding node
node_says sh e =
    let heads : ℕ → Bool = λ i. counts sh i && eqb (sh.trigger i).head e in (
      (λ h.
          let x = any_elim sh.trigger_count heads h in
          let i : ℕ = x.0 in
          (i, x.1, (counts_says sh i).0 (and_left (counts sh i) (eqb (sh.trigger i).head e) x.2), eqb-true _ _ (and_right (counts sh i) (eqb (sh.trigger i).head e) x.2))),
      (λ x. any_intro sh.trigger_count heads x.0 x.1 (and_both ((counts_says sh x.0).1 x.2) (eq-eqb _ _ x.3))),
    )

edge_says : (from : ℕ → ℕ) (sh : Sheet) (a b : ℕ) → (drawn from sh a b ≡ true)
    ↔ ((i : ℕ) × (j : ℕ) × (i < sh.trigger_count) × ((sh.trigger i).delay ≡ 0) × (j < (sh.trigger i).event_count) × (from ((sh.trigger i).event j) ≡ a) × ((sh.trigger i).head ≡ b) × (node sh a ≡ true))
edge_says from sh a b = (
  (λ h.
      let r = drawn_elim sh from a b h in
      let d = r.2 in
      (r.0, r.1, d.row, (counts_says sh r.0).0 d.counting, d.place, d.leaves, d.enters, d.at_node)),
  (λ x.
      drawn_by sh from a b x.0 x.1
      (record { row = x.2; counting = (counts_says sh x.0).1 x.3; place = x.4; leaves = x.5; enters = x.6; at_node = x.7 })),
)

-- For each such trigger and each body event E: an edge + from E to the head if E is a node.
pub plus_says : (sh : Sheet) (a b : ℕ) → (plus sh a b ≡ true)
    ↔ ((i : ℕ) × (j : ℕ) × (i < sh.trigger_count) × ((sh.trigger i).delay ≡ 0) × (j < (sh.trigger i).event_count) × ((sh.trigger i).event j ≡ a) × ((sh.trigger i).head ≡ b) × (node sh a ≡ true))
plus_says sh a b = edge_says (λ e. e) sh a b

-- An edge − from conf(E) to the head if conf(E) is a node.
pub minus_says : (sh : Sheet) (a b : ℕ) → (minus sh a b ≡ true)
    ↔ ((i : ℕ) × (j : ℕ) × (i < sh.trigger_count) × ((sh.trigger i).delay ≡ 0) × (j < (sh.trigger i).event_count) × (conf ((sh.trigger i).event j) ≡ a) × ((sh.trigger i).head ≡ b) × (node sh a ≡ true))
minus_says sh a b = edge_says conf sh a b
