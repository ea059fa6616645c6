-- Laws of nodes and edges as they are drawn, trigger after trigger and body event after body event.
-- Assumes nothing.
use Rattle.std.specs.Prelude.{◌≡◌, refl, Bool, true, false, ◌&&◌, ◌||◌, List, ℕ, ◌+◌, ◌≤◌, ◌<◌, eqb}
use Rattle.std.proofs.Common.{sym, ap, ◌∙◌, add-one, eqb-true}
use Rattle.std.proofs.Math.Bool.{and-false, or_comm}
use native.Mathlib.Omega.{arith}
use Rattle.theory.specs.Numbers.{EVENTS}
use Rattle.theory.specs.Below.{any_below}
use Rattle.theory.specs.Sheet.{Trigger, Sheet}
use Rattle.theory.specs.Graph.{Edges, counts, node, drawn}
use Rattle.theory.proofs.Laws.Tests.{same_or}
use Rattle.tables.specs.Layout.{trigger_at, sheet_of, triggers_of}
use Rattle.reach_row.specs.Row.{Row, reaches, RowIs}
use Rattle.reach_row.specs.Laws.Row.{row_same}
use Rattle.reach_rows.specs.Rows.{RowsAre, linked}
use Rattle.reach_rows.specs.Laws.Rows.{rows_same}
use Rattle.edges.specs.Drawing.{leaves, draws, draws_below, added_from}
pub mod Exact

-- ---- some of those below i, one more, and all

none_below : (f : ℕ → Bool) → any_below 0 f ≡ false
unfolding any_below
none_below f = refl

one_below : (i : ℕ) (f : ℕ → Bool) → any_below (i + 1) f ≡ (f i || any_below i f)
unfolding any_below
one_below i f = rw add-one refl

-- ---- nodes

module _ (n : ℕ) (table : List ℕ) where
  abbrev sh : Sheet
  sh = triggers_of n table

  -- e is the head event of a trigger below i that counts
  abbrev pub node_below : ℕ → ℕ → Bool
  node_below i e = any_below i (λ r. counts sh r && eqb (trigger_at table r).head e)

  pub nodes_none : (row : Row) → RowIs (λ _. false) row → RowIs (node_below 0) row
  nodes_none row h = row_same (node_below 0) (λ e _. sym (none_below (λ r. counts sh r && eqb (trigger_at table r).head e))) h

  pub nodes_next : (row : Row) (i head : ℕ) (on : Bool) → on ≡ counts sh i → head ≡ (trigger_at table i).head → RowIs (λ e. node_below i e || (on && eqb head e)) row → RowIs (node_below (i + 1)) row
  nodes_next row i head on p q h =
      row_same (node_below (i + 1))
      (λ e _. rw (p, q) (or_comm (node_below i e) (counts sh i && eqb (trigger_at table i).head e) ∙ sym (one_below i (λ r. counts sh r && eqb (trigger_at table r).head e))))
      h

  pub nodes_end : (row : Row) (i : ℕ) → i ≤ n → n ≤ i → RowIs (node_below i) row → RowIs (node sh) row
  unfolding node sheet_of
  nodes_end row i l m h = let e : i ≡ n = omega arith in rw e at h

-- ---- the body of one trigger

-- one edge more, if it leaves a node
edge_more : (e n on y f a : Bool) → (f ≡ true → on ≡ n) → ((e || (n && (y && a))) || (on && (f && y))) ≡ (e || (n && (y && (f || a))))
edge_more true n on y f a h = refl
edge_more false n on y false a h = rw and-false (sym (same_or (n && (y && a)) false refl))
edge_more false n on y true a h = rw (h refl) (cases n y a)
  where
    cases : (n y a : Bool) → ((n && (y && a)) || (n && y)) ≡ (n && (y && true))
    cases false y a = refl
    cases true false a = refl
    cases true true true = refl
    cases true true false = refl

-- the edges of the first m body events
abbrev pub body_edges : (ℕ → ℕ) → Trigger → ℕ → Edges
body_edges from g m x y = eqb g.head y && leaves from g m x

module _ (from : ℕ → ℕ) (heads : Row) (g : Trigger) (E : Edges) (rows : List Row) where
  pub body_none : RowsAre E rows → RowsAre (added_from heads (body_edges from g 0) E) rows
  body_none h =
      rows_same (added_from heads (body_edges from g 0) E)
      (λ x y _ _. same_or (E x y) (reaches heads x && body_edges from g 0 x y) (rw (none_below (λ j. eqb (from (g.event j)) x), and-false, and-false) refl))
      h

  pub body_next : (j tail head : ℕ) (on : Bool) → tail ≡ from (g.event j) → head ≡ g.head → on ≡ reaches heads tail
      → RowsAre (linked on tail head (added_from heads (body_edges from g j) E)) rows → RowsAre (added_from heads (body_edges from g (j + 1)) E) rows
  body_next j tail head on p q r h =
      rows_same (added_from heads (body_edges from g (j + 1)) E)
      (λ x y _ _.
      rw (one_below j (λ k. eqb (from (g.event k)) x), ← p, ← q)
      (edge_more (E x y) (reaches heads x) on (eqb head y) (eqb tail x) (leaves from g j x)
      (λ t. r ∙ ap (reaches heads) (eqb-true tail x t))))
      h

module _ (from : ℕ → ℕ) (heads : Row) (n : ℕ) (table : List ℕ) (i : ℕ) (E : Edges) (rows : List Row) where
  abbrev sheet : Sheet
  sheet = triggers_of n table

  pub body_end : (j : ℕ) → j ≤ (trigger_at table i).event_count → (trigger_at table i).event_count ≤ j → counts sheet i ≡ true
      → RowsAre (added_from heads (body_edges from (trigger_at table i) j) E) rows → RowsAre (added_from heads (draws from sheet i) E) rows
  unfolding sheet_of
  body_end j l m c h =
      let e : j ≡ (trigger_at table i).event_count = omega arith in
      rows_same (added_from heads (draws from sheet i) E) (λ x y _ _. rw (c, e) refl) h

  -- a trigger that does not count draws nothing
  pub body_skip : counts sheet i ≡ false → RowsAre E rows → RowsAre (added_from heads (draws from sheet i) E) rows
  body_skip c h =
      rows_same (added_from heads (draws from sheet i) E)
      (λ x y _ _. same_or (E x y) (reaches heads x && draws from sheet i x y) (rw (c, and-false) refl))
      h

-- ---- trigger after trigger

row_more : (e n f a : Bool) → ((e || (n && a)) || (n && f)) ≡ (e || (n && (f || a)))
row_more true n f a = refl
row_more false false f a = refl
row_more false true f a = or_comm a f

module _ (from : ℕ → ℕ) (heads : Row) (sh : Sheet) (E : Edges) (rows : List Row) where
  pub draws_none : RowsAre E rows → RowsAre (added_from heads (draws_below from sh 0) E) rows
  draws_none h =
      rows_same (added_from heads (draws_below from sh 0) E)
      (λ x y _ _. same_or (E x y) (reaches heads x && draws_below from sh 0 x y) (rw (none_below (λ r. draws from sh r x y), and-false) refl))
      h

  pub draws_next : (i : ℕ) → RowsAre (added_from heads (draws from sh i) (added_from heads (draws_below from sh i) E)) rows → RowsAre (added_from heads (draws_below from sh (i + 1)) E) rows
  draws_next i h =
      rows_same (added_from heads (draws_below from sh (i + 1)) E)
      (λ x y _ _. rw (one_below i (λ r. draws from sh r x y)) (row_more (E x y) (reaches heads x) (draws from sh i x y) (draws_below from sh i x y)))
      h

  pub draws_end : (n i : ℕ) → i ≤ n → n ≤ i → RowsAre (added_from heads (draws_below from sh i) E) rows → RowsAre (added_from heads (draws_below from sh n) E) rows
  draws_end n i l m h = let e : i ≡ n = omega arith in rw e at h

-- what is drawn from nodes by all triggers is what document 01 draws
pub draws_all : (from : ℕ → ℕ) (heads : Row) (n : ℕ) (table : List ℕ) → RowIs (node (triggers_of n table)) heads
    → (x y : ℕ) → x < EVENTS → (reaches heads x && draws_below from (triggers_of n table) n x y) ≡ drawn from (triggers_of n table) x y
unfolding drawn sheet_of
draws_all from heads n table h x y l = rw (h.says x l) refl
