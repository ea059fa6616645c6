-- What the tests of good order, of levels and of a loop say of a sheet.
-- Assumes nothing.
use Rattle.std.specs.Prelude.{◌≡◌, true, ◌&&◌, List, [], ◌∷◌}
use Rattle.std.proofs.Math.Bool.{Bool}
use Prim.Native.Nat.{ℕ, ◌/◌, ◌%◌, ◌≤◌, ◌<◌}
use Rattle.std.proofs.Common.{arith}
use Rattle.std.proofs.Math.Dec.{leb, ltb}
use borrow.Author.Tests.{ltb-true, leb-true, eqb-true}
use Rattle.theory.specs.Numbers.{ROLES, EVENTS, PERIODIC_ROWS, TRIGGER_ROWS}
use Rattle.theory.specs.Below.{all_below}
use Rattle.theory.specs.Events.{conf}
use Rattle.theory.specs.Sheet.{Sheet, GoodOrder, periodic_fits, trigger_fits}
use Rattle.theory.specs.Graph.{Edges, counts, node, minus, edge, Reaches, here, onward, pair_place, LoopAt, Levels}
use Rattle.theory.specs.LoopTest.{PAIRS}
use Rattle.theory.proofs.Laws.Tests.{and_left, and_right}
use Rattle.theory.proofs.Laws.Below.{all_elim}
use Rattle.theory.proofs.Laws.Graph.{drawn_elim}
use Rattle.examples.proofs.Laws.Passes.{◌⇒◌, good_order, leveled, leads, loops_at}
use Rattle.examples.proofs.Laws.Listed.{passes_then}

module _ (sh : Sheet) where
  pub good_order_lem : good_order sh ≡ true → GoodOrder sh
  unfolding good_order
  good_order_lem h =
      let roles = and_left (leb 1 sh.role_count && leb sh.role_count ROLES) _ (and_left _ _ h) in
      let counts = and_right (leb 1 sh.role_count && leb sh.role_count ROLES) _ (and_left _ _ h) in
      let fits = and_right ((leb 1 sh.role_count && leb sh.role_count ROLES) && (leb sh.periodic_count PERIODIC_ROWS && leb sh.trigger_count TRIGGER_ROWS)) _ h in
      record {
        some_role = leb-true _ _ (and_left (leb 1 sh.role_count) _ roles);
        few_roles = leb-true _ _ (and_right (leb 1 sh.role_count) _ roles);
        few_periodics = leb-true _ _ (and_left (leb sh.periodic_count PERIODIC_ROWS) _ counts);
        few_triggers = leb-true _ _ (and_right (leb sh.periodic_count PERIODIC_ROWS) _ counts);
        periodics = all_elim sh.periodic_count (λ i. periodic_fits sh.role_count (sh.periodic i)) (and_left _ _ fits);
        triggers = all_elim sh.trigger_count (λ i. trigger_fits sh.role_count (sh.trigger i)) (and_right (all_below sh.periodic_count (λ i. periodic_fits sh.role_count (sh.periodic i))) _ fits);
      }

  -- a test of each body event of each trigger that counts
  each_body : (f : ℕ → ℕ → Bool) → all_below sh.trigger_count (λ i. counts sh i ⇒ all_below (sh.trigger i).event_count (f i)) ≡ true
      → (i j : ℕ) → i < sh.trigger_count → counts sh i ≡ true → j < (sh.trigger i).event_count → f i j ≡ true
  each_body f h i j l o m =
      all_elim (sh.trigger i).event_count (f i)
      (passes_then (counts sh i) (all_below (sh.trigger i).event_count (f i)) (all_elim sh.trigger_count (λ i. counts sh i ⇒ all_below (sh.trigger i).event_count (f i)) h i l) o)
      j
      m

  pub leveled_levels : (level : ℕ → ℕ) → leveled sh level ≡ true → Levels sh level
  unfolding leveled
  leveled_levels level h =
      let low : ℕ → ℕ → Bool = λ i j. node sh ((sh.trigger i).event j) ⇒ leb (level ((sh.trigger i).event j)) (level (sh.trigger i).head) in
      let high : ℕ → ℕ → Bool = λ i j. node sh (conf ((sh.trigger i).event j)) ⇒ ltb (level (conf ((sh.trigger i).event j))) (level (sh.trigger i).head) in
      record {
        no_lower = λ i j l o m n. leb-true _ _ (passes_then (node sh ((sh.trigger i).event j)) _ (and_left (low i j) (high i j) (each_body (λ i j. low i j && high i j) h i j l o m)) n);
        above = λ i j l o m n. ltb-true _ _ (passes_then (node sh (conf ((sh.trigger i).event j))) _ (and_right (low i j) (high i j) (each_body (λ i j. low i j && high i j) h i j l o m)) n);
      }

leads_reaches : (E : Edges) (a b : ℕ) (ms : List ℕ) → leads E a ms b ≡ true → Reaches E a b
leads_reaches E a b [] h = rw (eqb-true a b h) here
leads_reaches E a b (m ∷ ms) h = onward (and_left (E a m) (leads E m ms b) h) (leads_reaches E m b ms (and_right (E a m) (leads E m ms b) h))

pub loops_at_lem : (sh : Sheet) (place : ℕ) (back : List ℕ) → loops_at sh place back ≡ true → LoopAt sh place
unfolding loops_at
loops_at_lem sh place back h =
    let a : ℕ = place / EVENTS in
    let b : ℕ = place % EVENTS in
    let later : ℕ → ℕ → Bool = λ i j. node sh (conf ((sh.trigger i).event j)) ⇒ leb place (pair_place (conf ((sh.trigger i).event j)) (sh.trigger i).head) in
    let l : place < PAIRS = ltb-true _ _ (and_left (ltb place PAIRS) _ h) in
    let h₁ = and_right (ltb place PAIRS) _ h in
    let h₂ = and_right (minus sh a b) _ h₁ in
    record {
      from = a;
      to = b;
      is_pair = omega arith;
      from_event = omega arith;
      to_event = omega arith;
      cycle = record { negative = and_left (minus sh a b) _ h₁; back = leads_reaches (edge sh) b a back (and_left (leads (edge sh) b back a) _ h₂) };
      is_first = λ x y _ _ c.
          let r = drawn_elim sh conf x y c.negative in
          let i : ℕ = r.0 in
          let j : ℕ = r.1 in
          let d = r.2 in
          let n : node sh (conf ((sh.trigger i).event j)) ≡ true = rw d.leaves d.at_node in
          let k : place ≤ pair_place (conf ((sh.trigger i).event j)) (sh.trigger i).head
          = leb-true _ _ (passes_then (node sh (conf ((sh.trigger i).event j))) _ (each_body sh later (and_right (leads (edge sh) b back a) _ h₂) i j d.row d.counting d.place) n) in
          omega (arith, d.leaves, d.enters);
    }
