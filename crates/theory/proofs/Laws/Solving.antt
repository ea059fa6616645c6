-- What the solver goes by. The triggers whose heads stand on one level are swept over, in the set itself, until nothing is added; then those of the next level. What can
-- block such a body lies on lower levels and is final, and what is added later changes no body on this level: at the end the set solves S = Caused(S).
-- Assumes nothing.
use Rattle.std.specs.Prelude.{◌≡◌, Bool, true, false, ◌&&◌, ◌||◌, ℕ, suc, ◌+◌, ◌*◌, ◌/◌, ◌%◌, ◌≤◌, ◌<◌, eqb}
use Rattle.std.proofs.Math.Path.{refl, fun_ext}
use Rattle.std.proofs.Common.{sym, ap, ◌∙◌, subst, inl, inr, ⊎_elim, true≢false, eq-or-lt_of_le, add-one, arith, eqb-true, lt-ltb}
use Rattle.std.proofs.Math.Bool.{and-false}
use Rattle.std.proofs.lemmas.Bool.{false≢true}
use Rattle.theory.specs.Numbers.{EVENTS, PRIORITIES}
use Rattle.theory.specs.Events.{Events, Roles, conf, Part}
use Rattle.theory.specs.Sheet.{Trigger, Sheet, GoodOrder, is}
use Rattle.theory.specs.Instant.{allows, met, ready, IsLeast}
use Rattle.theory.specs.Graph.{counts, Levels}
use Rattle.theory.proofs.Laws.Tests.{and_left, and_both, or_left, or_right, or_cases, or_none_left, or_none_right, test, not_both, bool_ext}
use Rattle.theory.proofs.Laws.Below.{below_cases, lt_or_le, count_le, count_mono, count_strict}
use Rattle.theory.proofs.Laws.Instant.{met_map}
use Rattle.theory.specs.Solving.{Stratified, AgreeBelow, prioritized, MEMBERS, size_of, Turn, Done, Keys, key_of, Settled, Gap, Keeps, Swept, Reached}
use Rattle.theory.proofs.Laws.Exists.{is_self, is_only}
use Rattle.theory.proofs.Laws.Levels.{up, up_head, ready_counts}
use Rattle.theory.proofs.Laws.OneSolution.{good_trigger, good_heads}

-- ---- how many members: what the sweeps of one level end by

pub size_most : (X : Events) → size_of X ≤ MEMBERS
unfolding size_of
size_most X = count_le MEMBERS (λ k. X (k / PRIORITIES) (k % PRIORITIES))

size_mono : (X X' : Events) → Part X X' → size_of X ≤ size_of X'
unfolding size_of
size_mono X X' s = count_mono MEMBERS (λ k. X (k / PRIORITIES) (k % PRIORITIES)) (λ k. X' (k / PRIORITIES) (k % PRIORITIES)) (λ k _. s (k / PRIORITIES) (k % PRIORITIES))

size_more : (X X' : Events) (e p : ℕ) → e < EVENTS → p < PRIORITIES → Part X X' → X e p ≡ false → X' e p ≡ true → size_of X < size_of X'
unfolding size_of
size_more X X' e p le lp s f t =
    let k : ℕ = PRIORITIES * e + p in
    let d : k / PRIORITIES ≡ e = omega arith in
    let r : k % PRIORITIES ≡ p = omega arith in
    count_strict MEMBERS (λ k. X (k / PRIORITIES) (k % PRIORITIES)) (λ k. X' (k / PRIORITIES) (k % PRIORITIES))
    (λ i _. s (i / PRIORITIES) (i % PRIORITIES))
    k
    (omega arith)
    (rw (d, r) f)
    (rw (d, r) t)

-- ---- a trigger's turn

-- nothing is added where the trigger does not act, where its head is no prioritized event, and where that is there already
pub turn_idle : (acts : Bool) (X : Events) (e p : ℕ) → (acts ≡ true → prioritized e p ≡ true → X e p ≡ true) → Turn acts X e p false X
turn_idle acts X e p h = record { grows = λ a b x. x; only = λ a b x. inl x; there = h; same = λ _. refl; more = λ t. absurd (false≢true t) }

-- the head is added
pub turn_added : (X X' : Events) (e p : ℕ) → e < EVENTS → p < PRIORITIES → X e p ≡ false → ((a b : ℕ) → X' a b ≡ (X a b || is e p a b)) → Turn true X e p true X'
turn_added X X' e p le lp f h =
    let g : Part X X' = λ a b x. h a b ∙ or_left (is e p a b) x in
    let t : X' e p ≡ true = h e p ∙ or_right (X e p) (is_self e p) in
    record {
      grows = g;
      only = λ a b x.
          ⊎_elim
          (λ (y : X a b ≡ true). inl y)
          (λ (y : is e p a b ≡ true). inr (refl, y))
          (or_cases (X a b) (is e p a b) (sym (h a b) ∙ x));
      there = λ _ _. t;
      same = λ x. absurd (true≢false x);
      more = λ _. size_more X X' e p le lp g f t;
    }

-- ---- the invariant

module _ (sh : Sheet) (on : ℕ → Bool) (G : Events) (level : ℕ → ℕ) (st : Stratified sh on level) where
  -- a turn of a trigger that acts only on level m changes nothing below it
  turn_agree : (m : ℕ) (acts : Bool) (X X' : Events) (e p : ℕ) (new : Bool) → (acts ≡ true → level e ≡ m) → Turn acts X e p new X' → AgreeBelow level m X X'
  turn_agree m acts X X' e p new h t d l =
      fun_ext (λ q.
      bool_ext (X d q) (X' d q)
      (t.grows d q)
      (λ x.
      ⊎_elim
      (λ (y : X d q ≡ true). y)
      (λ (y : (acts ≡ true) × (is e p d q ≡ true)). absurd (omega (arith, h y.0, ap level (eqb-true e d (and_left (eqb e d) (eqb p q) y.1)))))
      (t.only d q x)))

  -- a turn keeps the invariant of level m, if the trigger acts only where its head stands there, it can fire and its body is met
  done_turn : (m i : ℕ) (acts : Bool) (X X' : Events) (new : Bool) → i < sh.trigger_count
      → (acts ≡ true → (on i ≡ true) × (level (sh.trigger i).head ≡ m) × (met X X (sh.trigger i) ≡ true))
      → Turn acts X (sh.trigger i).head (sh.trigger i).priority new X' → Done sh on G level m X → Done sh on G level m X'
  done_turn m i acts X X' new l h t d =
      let g : Trigger = sh.trigger i in
      let same : AgreeBelow level m X X' = turn_agree m acts X X' g.head g.priority new (λ a. (h a).1) t in
      record {
        given = λ e p x. t.grows e p (d.given e p x);
        closed = λ k lk ok hk b.
            let f : Trigger = sh.trigger k in
            t.grows f.head f.priority
            (d.closed k lk ok hk
            (met_map X' X X' X f
            (λ j x. sym (same (conf (f.event j)) (omega (arith, (st k j lk ok x).1))))
            (λ j x q y. ap (λ (row : ℕ → Bool). row q) (same (f.event j) (omega (arith, (st k j lk ok x).0))) ∙ y)
            b));
        least = λ S Y s c e p x.
            let s' : AgreeBelow level m X S = λ e x. same e x ∙ s e x in
            let part : Part X Y = d.least S Y s' c in
            ⊎_elim
            (λ (y : X e p ≡ true). part e p y)
            (λ (y : (acts ≡ true) × (is g.head g.priority e p ≡ true)).
            let a = h y.0 in
            is_only Y g.head g.priority e p y.1
            (c.holds_heads i l a.0
            (met_map X S X Y g
            (λ j x. s' (conf (g.event j)) (omega (arith, (st i j l a.0 x).1)))
            (λ j x q z. part (g.event j) q z)
            a.2)))
            (t.only e p x);
      }

-- ---- keys

-- its cases
module _ (sh : Sheet) (ST : Roles) (level : ℕ → ℕ) (i : ℕ) where
  pub key_uncounted : counts sh i ≡ false → 0 ≡ key_of sh ST level i
  unfolding key_of
  key_uncounted c = rw c refl

  pub key_forbidden : allows ST (sh.trigger i) ≡ false → 0 ≡ key_of sh ST level i
  unfolding key_of
  key_forbidden a = rw (a, and-false (counts sh i)) refl

  pub key_raised : (v : ℕ) → counts sh i ≡ true → allows ST (sh.trigger i) ≡ true → v ≡ level (sh.trigger i).head → v + 1 ≡ key_of sh ST level i
  unfolding key_of
  key_raised v c a e = rw (c, a, e) (add-one (level (sh.trigger i).head))

-- a trigger can fire where it counts and its conditions hold
ready_is : (sh : Sheet) (ST : Roles) (i : ℕ) → (counts sh i && allows ST (sh.trigger i)) ≡ ready sh ST i
unfolding ready counts
ready_is sh ST i = refl

-- such keys go by the levels raised by one
pub keys_are : (sh : Sheet) (ST : Roles) (level key : ℕ → ℕ) → GoodOrder sh → Levels sh level → ((i : ℕ) → i < sh.trigger_count → key i ≡ key_of sh ST level i)
    → Keys sh (ready sh ST) (up sh level) key
unfolding key_of
keys_are sh ST level key good lv h =
    let raised : (i : ℕ) → i < sh.trigger_count → ready sh ST i ≡ true → up sh level (sh.trigger i).head ≡ suc (level (sh.trigger i).head)
    = λ i l o. up_head sh level lv i l (ready_counts sh ST i o) in
    record {
      acts = λ i l o. h i l ∙ rw (ready_is sh ST i, o) (sym (raised i l o));
      above = λ i l o. omega (arith, raised i l o);
      idle = λ i l o. h i l ∙ rw (ready_is sh ST i, o) refl;
      fits = λ i l o. and_both (lt-ltb _ _ (good_heads sh good i l)) (lt-ltb _ _ (good_trigger sh good i l).priority);
    }

-- no trigger has the key r
pub gap_wider : (key : ℕ → ℕ) (n k r : ℕ) → Gap key n k r → ((i : ℕ) → i < n → ¬ (key i ≡ r)) → Gap key n k (r + 1)
gap_wider key n k r g none i l =
    ⊎_elim
    (λ (x : key i ≤ k). inl x)
    (λ (x : r ≤ key i). inr (⊎_elim (λ (y : r ≡ key i). absurd (none i l (sym y))) (λ (y : r < key i). omega arith) (eq-or-lt_of_le x)))
    (g i l)

-- between a key and the next number lies none
pub gap_first : (key : ℕ → ℕ) (n k : ℕ) → Gap key n k (k + 1)
gap_first key n k i l = ⊎_elim (λ (x : key i < k + 1). inl (omega arith)) (λ (x : k + 1 ≤ key i). inr x) (lt_or_le (key i) (k + 1))

-- the turn of a trigger whose body is not met, and of one that acts
pub turn_unmet : (X : Events) (g : Trigger) → met X X g ≡ false → Turn (met X X g) X g.head g.priority false X
turn_unmet X g h = turn_idle (met X X g) X g.head g.priority (λ a. not_both a h)

pub turn_met : (X : Events) (g : Trigger) (e p : ℕ) (new : Bool) (X' : Events) → met X X g ≡ true → e ≡ g.head → p ≡ g.priority
    → Turn true X e p new X' → Turn (met X X g) X g.head g.priority new X'
turn_met X g e p new X' h u v t = rw (h, ← u, ← v) t

-- ---- a sweep over the triggers of one key

module _ (sh : Sheet) (key : ℕ → ℕ) (m : ℕ) (X : Events) where
  pub swept_none : Swept sh key m X 0 false X
  swept_none = record { keeps = λ on G level st ks d. d; settled = λ _ i l. absurd (omega arith); most = omega arith; more = λ h. absurd (false≢true h) }

  pub swept_turn : (n : ℕ) (c : Bool) (Y : Events) (d : Bool) (Y' : Events) → 0 < m → n < sh.trigger_count → key n ≡ m
      → Swept sh key m X n c Y → Turn (met Y Y (sh.trigger n)) Y (sh.trigger n).head (sh.trigger n).priority d Y' → Swept sh key m X (n + 1) (c || d) Y'
  swept_turn n c Y d Y' z l k w t =
      record {
        keeps = λ on G level st ks start.
            let o : on n ≡ true = ⊎_elim (λ (x : on n ≡ true). x) (λ (x : on n ≡ false). absurd (omega (arith, ks.idle n l x))) (test (on n)) in
            done_turn sh on G level st m n (met Y Y (sh.trigger n)) Y Y' d l (λ a. (o, sym (ks.acts n l o) ∙ k, a)) t (w.keeps on G level st ks start);
        settled = λ y i il e f b.
            let same : Y' ≡ Y = t.same (or_none_right c d y) in
            let b' : met Y Y (sh.trigger i) ≡ true = subst (λ (Z : Events). met Z Z (sh.trigger i) ≡ true) same b in
            let im : i < suc n = omega arith in
            ⊎_elim
            (λ (e : i ≡ n). rw e (t.there (rw e at b') (rw e at f)))
            (λ (h : i < n). t.grows (sh.trigger i).head (sh.trigger i).priority (w.settled (or_none_left c d y) i h e f b'))
            (below_cases im);
        most = omega (arith, w.most, size_mono Y Y' t.grows);
        more = λ y.
            ⊎_elim
            (λ (x : c ≡ true). omega (arith, w.more x, size_mono Y Y' t.grows))
            (λ (x : d ≡ true). omega (arith, w.most, t.more x))
            (or_cases c d y);
      }

  -- triggers of other keys have no turn
  pub swept_past : (n r : ℕ) (c : Bool) (Y : Events) → ((i : ℕ) → n ≤ i → i < r → ¬ (key i ≡ m)) → Swept sh key m X n c Y → Swept sh key m X r c Y
  swept_past n r c Y none w =
      record {
        keeps = w.keeps;
        settled = λ y i il e f b.
            ⊎_elim (λ (h : i < n). w.settled y i h e f b) (λ (h : n ≤ i). absurd (none i h il e)) (lt_or_le i n);
        most = w.most;
        more = w.more;
      }

-- ---- the keys in order

module _ (sh : Sheet) (key : ℕ → ℕ) (G : Events) where
  -- before the first key
  pub reached_first : (r : ℕ) → Gap key sh.trigger_count 0 r → Reached sh key G r G
  reached_first r g on level st ks =
      record {
        given = λ e p h. h;
        closed = λ i l o h b.
            ⊎_elim
            (λ (x : key i ≤ 0). absurd (omega (arith, ks.above i l o, ks.acts i l o)))
            (λ (x : r ≤ key i). absurd (omega (arith, ks.acts i l o)))
            (g i l);
        least = λ S Y s c. c.holds_givens;
      }

  -- from one key to the next that a trigger has
  pub reached_next : (k r : ℕ) (X X' : Events) → k < r → Gap key sh.trigger_count k r → Keeps sh key k X X' → Settled sh key k X' sh.trigger_count
      → Reached sh key G k X → Reached sh key G r X'
  reached_next k r X X' kr g p s h on level st ks =
      let d : Done sh on G level k X' = p on G level st ks (h on level st ks) in
      record {
        given = d.given;
        closed = λ i l o m b.
            let e = ks.acts i l o in
            ⊎_elim
            (λ (x : key i ≤ k).
            ⊎_elim
            (λ (y : key i ≡ k). s i l y (ks.fits i l o) b)
            (λ (y : key i < k). d.closed i l o (omega arith) b)
            (below_cases {n = k} (omega arith)))
            (λ (x : r ≤ key i). absurd (omega arith))
            (g i l);
        least = λ S Y a c. d.least S Y (λ e x. a e (omega arith)) c;
      }

  -- after the last
  pub reached_last : (k : ℕ) (X : Events) (on : ℕ → Bool) (level : ℕ → ℕ) → Stratified sh on level → Keys sh on level key
      → ((i : ℕ) → i < sh.trigger_count → key i < k) → Reached sh key G k X → IsLeast sh on G X X
  reached_last k X on level st ks b h =
      let d : Done sh on G level k X = h on level st ks in
      record {
        closed = record { holds_givens = d.given; holds_heads = λ i l o m. d.closed i l o (omega (arith, b i l, ks.acts i l o)) m };
        least = λ Y c. d.least X Y (λ e x. refl) c;
      }
