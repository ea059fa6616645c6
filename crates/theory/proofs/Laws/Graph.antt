-- Laws of nodes and edges: an edge is drawn by a trigger that counts and one of its body events, and leads from a node to a head.
-- Assumes nothing.
use Rattle.std.specs.Prelude.{◌≡◌, refl, ◌↔◌, ◌&&◌}
use Rattle.std.proofs.Common.{subst₂, arith}
use Rattle.std.proofs.Math.Logic.{⊎_elim}
use Rattle.std.proofs.Math.Bool.{Bool, true}
use Prim.Native.Nat.{ℕ, ◌<◌}
use Rattle.std.proofs.Math.Dec.{eqb}
use borrow.Author.Tests.{eqb-true, eq-eqb}
use Rattle.theory.specs.Numbers.{EVENTS}
use Rattle.theory.specs.Below.{any_below}
use Rattle.theory.specs.Sheet.{Sheet}
use Rattle.theory.specs.Graph.{counts, node, drawn, plus, minus, edge}
use Rattle.theory.proofs.Laws.Tests.{and_left, and_right, and_both, or_left, or_right, or_cases}
use Rattle.theory.proofs.Laws.Below.{any_intro, any_elim}

-- every head is an event
abbrev pub HeadsBelow : Sheet → Type 0
HeadsBelow sh = (i : ℕ) → i < sh.trigger_count → (sh.trigger i).head < EVENTS

-- Nodes and edges are drawn by triggers of delay 0 and by no others.
pub counts_says : (sh : Sheet) (i : ℕ) → (counts sh i ≡ true) ↔ ((sh.trigger i).delay ≡ 0)
unfolding counts
counts_says sh i = (eqb-true (sh.trigger i).delay 0, eq-eqb (sh.trigger i).delay 0)

-- the edge from a to b is drawn by the body event j of trigger i
pub record DrawnBy (from : ℕ → ℕ) (sh : Sheet) (a b i j : ℕ) : Type 0 where
  pub row : i < sh.trigger_count
  pub counting : counts sh i ≡ true
  pub place : j < (sh.trigger i).event_count
  pub leaves : from ((sh.trigger i).event j) ≡ a
  pub enters : (sh.trigger i).head ≡ b
  pub at_node : node sh a ≡ true

module _ (sh : Sheet) where
  pub head_node : (i : ℕ) → i < sh.trigger_count → counts sh i ≡ true → node sh (sh.trigger i).head ≡ true
  unfolding node
  head_node i l o =
      let h : ℕ = (sh.trigger i).head in
      any_intro sh.trigger_count (λ k. counts sh k && eqb (sh.trigger k).head h) i l (and_both o (eq-eqb h h refl))

  pub drawn_intro : (from : ℕ → ℕ) (i j : ℕ) → i < sh.trigger_count → counts sh i ≡ true → j < (sh.trigger i).event_count
      → node sh (from ((sh.trigger i).event j)) ≡ true → drawn from sh (from ((sh.trigger i).event j)) (sh.trigger i).head ≡ true
  unfolding drawn
  drawn_intro from i j l o m n =
      let a : ℕ = from ((sh.trigger i).event j) in
      let b : ℕ = (sh.trigger i).head in
      and_both n
      (any_intro sh.trigger_count (λ k. (counts sh k && eqb (sh.trigger k).head b) && any_below (sh.trigger k).event_count (λ q. eqb (from ((sh.trigger k).event q)) a)) i l
      (and_both (and_both o (eq-eqb b b refl)) (any_intro (sh.trigger i).event_count (λ q. eqb (from ((sh.trigger i).event q)) a) j m (eq-eqb a a refl))))

  pub drawn_by : (from : ℕ → ℕ) (a b i j : ℕ) → DrawnBy from sh a b i j → drawn from sh a b ≡ true
  drawn_by from a b i j d =
      subst₂ (λ (x y : ℕ). drawn from sh x y ≡ true) d.leaves d.enters
      (drawn_intro from i j d.row d.counting d.place (rw d.leaves d.at_node))

  pub drawn_elim : (from : ℕ → ℕ) (a b : ℕ) → drawn from sh a b ≡ true → (i : ℕ) × (j : ℕ) × DrawnBy from sh a b i j
  unfolding drawn
  drawn_elim from a b h =
      let leaving : ℕ → Bool = λ k. any_below (sh.trigger k).event_count (λ q. eqb (from ((sh.trigger k).event q)) a) in
      let entering : ℕ → Bool = λ k. counts sh k && eqb (sh.trigger k).head b in
      let r = any_elim sh.trigger_count (λ k. entering k && leaving k) (and_right (node sh a) _ h) in
      let i : ℕ = r.0 in
      let u : entering i ≡ true = and_left (entering i) (leaving i) r.2 in
      let s = any_elim (sh.trigger i).event_count (λ q. eqb (from ((sh.trigger i).event q)) a) (and_right (entering i) (leaving i) r.2) in (
        i,
        s.0,
        record {
          row = r.1;
          counting = and_left (counts sh i) (eqb (sh.trigger i).head b) u;
          place = s.1;
          leaves = eqb-true _ _ s.2;
          enters = eqb-true _ _ (and_right (counts sh i) (eqb (sh.trigger i).head b) u);
          at_node = and_left (node sh a) _ h;
        },
      )

  pub plus_edge : (a b : ℕ) → plus sh a b ≡ true → edge sh a b ≡ true
  unfolding edge
  plus_edge a b h = or_left (minus sh a b) h

  pub minus_edge : (a b : ℕ) → minus sh a b ≡ true → edge sh a b ≡ true
  unfolding edge
  minus_edge a b h = or_right (plus sh a b) h

  module _ (hb : HeadsBelow sh) where
    node_below_lem : (a : ℕ) → node sh a ≡ true → a < EVENTS
    unfolding node
    node_below_lem a h =
        let r = any_elim sh.trigger_count (λ i. counts sh i && eqb (sh.trigger i).head a) h in
        let e : (sh.trigger r.0).head ≡ a = eqb-true _ _ (and_right (counts sh r.0) (eqb (sh.trigger r.0).head a) r.2) in
        omega (arith, hb r.0 r.1)

    -- an edge leads from an event to an event
    pub drawn_from : (from : ℕ → ℕ) (a b : ℕ) → drawn from sh a b ≡ true → a < EVENTS
    drawn_from from a b h = let r = drawn_elim from a b h in node_below_lem a r.2.at_node

    pub drawn_to : (from : ℕ → ℕ) (a b : ℕ) → drawn from sh a b ≡ true → b < EVENTS
    drawn_to from a b h = let r = drawn_elim from a b h in omega (arith, hb r.0 r.2.row, r.2.enters)

    pub edge_to : (a b : ℕ) → edge sh a b ≡ true → b < EVENTS
    unfolding edge
    edge_to a b h = ⊎_elim (drawn_to _ a b) (drawn_to _ a b) (or_cases (plus sh a b) (minus sh a b) h)
