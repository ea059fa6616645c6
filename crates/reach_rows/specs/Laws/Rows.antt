-- Laws of the rows: they hold each graph that is the same among the events; and what one row stored makes of them.
-- Assumes nothing.
use Rattle.std.specs.Prelude.{◌≡◌, refl, Bool, false, ◌&&◌, ◌||◌, List, [], ℕ, ◌≤◌, ◌<◌, eqb, get_or, set, replicate}
use Rattle.std.proofs.Common.{sym, ◌∙◌, arith, length-set, get_or-set_same, get_or-set_other, lt-ltb, eq-eqb, ne_eqb}
use Rattle.std.proofs.Math.Logic.{by_cases}
use Rattle.std.proofs.Math.Bool.{and-false}
use Rattle.std.proofs.Math.Decide.{ℕ_discrete}
use Rattle.std.proofs.lemmas.List.{length-replicate, get_or-replicate}
use Rattle.theory.specs.Numbers.{EVENTS}
use Rattle.theory.specs.Below.{any_below}
use Rattle.theory.specs.Graph.{Edges}
use Rattle.theory.proofs.Laws.Tests.{same_or}
use Rattle.reach_row.specs.Row.{Row, reaches, RowIs}
use Rattle.reach_row.specs.Laws.Changes.{past_event}
use Rattle.reach_row.specs.Laws.Row.{row_same, none_reached}
use Rattle.reach_rows.specs.Rows.{edges_of, RowsAre, linked}

pub rows_same : {E : Edges} {rows : List Row} (F : Edges) → ((a b : ℕ) → a < EVENTS → b < EVENTS → E a b ≡ F a b) → RowsAre E rows → RowsAre F rows
rows_same F e h = record { size = h.size; each = λ a l. row_same (F a) (λ b m. e a b l m) (h.each a l) }

-- what the rows' own edges are
pub rows_say : {E : Edges} {rows : List Row} → RowsAre E rows → (a b : ℕ) → a < EVENTS → b < EVENTS → edges_of rows a b ≡ E a b
unfolding edges_of
rows_say h a b l m = rw (lt-ltb a EVENTS l) ((h.each a l).says b m)

-- the edges of an event are what its row reaches
pub edge_row : (rows : List Row) (a b : ℕ) → a < EVENTS → reaches (get_or rows a []) b ≡ edges_of rows a b
unfolding edges_of
edge_row rows a b l = rw (lt-ltb a EVENTS l) refl

-- an event whose row, at i, reaches none has no edge
pub no_edge : (rows : List Row) (a i : ℕ) (some : Bool) → i ≡ a → some ≡ any_below EVENTS (reaches (get_or rows i [])) → some ≡ false → (b : ℕ) → b < EVENTS → edges_of rows a b ≡ false
unfolding edges_of
no_edge rows a i some e s f b l = rw (← e, none_reached (get_or rows i []) (sym s ∙ f) b l, and-false) refl

-- every row without an event
pub empty_rows : (row : Row) → RowIs (λ _. false) row → RowsAre (λ _ _. false) (replicate EVENTS row)
empty_rows row h = record { size = length-replicate EVENTS row; each = λ a l. rw (get_or-replicate EVENTS a row [] l) h }

-- ---- one row stored

pub rows_set : {E : Edges} {rows : List Row} {row : Row} (F : Edges) (a : ℕ) → a < EVENTS → ((x y : ℕ) → (x ≡ a → ⊥) → E x y ≡ F x y)
    → RowsAre E rows → RowIs (F a) row → RowsAre F (set rows a row)
rows_set {E} {rows} {row} F a l e h r =
    record {
      size = length-set rows a row ∙ h.size;
      each = λ x m.
          by_cases (ℕ_discrete x a)
          (λ (q : x ≡ a). rw (q, get_or-set_same rows a row [] (omega (arith, h.size))) r)
          (λ (n : ¬ (x ≡ a)). rw (get_or-set_other rows a x row [] n) (row_same (F x) (λ b _. e x b n) (h.each x m)));
    }

-- with the edge from a, whose row is at i, to b added, where `on`
module _ (E : Edges) (rows : List Row) (h : RowsAre E rows) (on : Bool) (a b i : ℕ) (same : i ≡ a) where
  pub link_past : EVENTS ≤ i → RowsAre (linked on a b E) rows
  link_past m = rows_same (linked on a b E) (λ x y l _. same_or (E x y) (on && (eqb a x && eqb b y)) (rw (past_event a x l (omega arith), and-false) refl)) h

  pub link_in : (row : Row) → i < EVENTS → RowIs (λ y. E i y || (on && eqb b y)) row → RowsAre (linked on a b E) (set rows i row)
  link_in row l r =
      rows_set (linked on a b E) i l
      (λ x y n. same_or (E x y) (on && (eqb a x && eqb b y)) (rw (ne_eqb a x (λ q. n (sym q ∙ sym same)), and-false) refl))
      h
      (row_same (linked on a b E i) (λ y _. rw (eq-eqb a i (sym same)) refl) r)
