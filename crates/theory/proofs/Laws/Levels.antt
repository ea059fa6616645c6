-- Levels that meet the rule are there exactly when there is no loop. One way, a walk never falls and a − edge rises. The other way, take for each event how many
-- events reach it: along an edge all that reached its start reach its end, and on a − edge without a cycle the end counts itself besides.
-- Assumes nothing.
use Rattle.std.specs.Prelude.{◌≡◌, ◌↔◌, Bool, false, cond}
use Rattle.std.proofs.Math.Path.{refl}
use Rattle.std.proofs.Common.{ap, arith, eqb-true}
use Rattle.std.proofs.Math.Logic.{⊎_elim}
use Rattle.std.proofs.Math.Bool.{true}
use Prim.Native.Nat.{ℕ, suc, ◌≤◌, ◌<◌}
use Rattle.theory.specs.Numbers.{EVENTS}
use Rattle.theory.specs.Events.{Roles, conf}
use Rattle.theory.specs.Sheet.{Sheet}
use Rattle.theory.specs.Instant.{allows, immediate, ready}
use Rattle.theory.specs.Graph.{counts, node, plus, minus, edge, Reaches, here, onward, NoLoop, Levels}
use Rattle.theory.specs.LoopTest.{reach, level_of}
use Rattle.theory.proofs.Laws.Tests.{and_left, or_cases, test, is_false}
use Rattle.theory.proofs.Laws.Below.{count_le, count_mono, count_strict}
use Rattle.theory.specs.Solving.{Stratified}
use Rattle.theory.proofs.Laws.Reach.{reaches_append, reaches_edge, through_sound, through_complete, through_self}
use Rattle.theory.proofs.Laws.Graph.{HeadsBelow, counts_says, head_node, drawn_intro, drawn_elim, plus_edge, minus_edge, edge_to}

pub level_most : (sh : Sheet) (e : ℕ) → level_of sh e ≤ EVENTS
unfolding level_of
level_most sh e = count_le EVENTS (λ x. reach sh x e)

-- ---- no loop gives levels

module _ (sh : Sheet) (hb : HeadsBelow sh) where
  reach_on : (x a b : ℕ) → edge sh a b ≡ true → reach sh x a ≡ true → reach sh x b ≡ true
  reach_on x a b e h = through_complete (edge sh) EVENTS (edge_to sh hb) (reaches_append (through_sound (edge sh) EVENTS x a h) (reaches_edge e))

  pub noloop_levels : NoLoop sh → Levels sh (level_of sh)
  unfolding level_of
  noloop_levels nl =
      record {
        no_lower = λ i j l o m n.
            let a : ℕ = (sh.trigger i).event j in
            let b : ℕ = (sh.trigger i).head in
            count_mono EVENTS (λ x. reach sh x a) (λ x. reach sh x b)
            (λ x _. reach_on x a b (plus_edge sh a b (drawn_intro sh (λ e. e) i j l o m n)));
        above = λ i j l o m n.
            let a : ℕ = conf ((sh.trigger i).event j) in
            let b : ℕ = (sh.trigger i).head in
            let d : minus sh a b ≡ true = drawn_intro sh conf i j l o m n in
            count_strict EVENTS (λ x. reach sh x a) (λ x. reach sh x b)
            (λ x _. reach_on x a b (minus_edge sh a b d))
            b
            (hb i l)
            (is_false (reach sh b a) (λ p. nl a b (record { negative = d; back = through_sound (edge sh) EVENTS b a p })))
            (through_self (edge sh) EVENTS b);
      }

-- what a proof goes by: 0 for what is no node, and one more than its level for a node
pub up : Sheet → (ℕ → ℕ) → ℕ → ℕ
up sh level e = cond (node sh e) (suc (level e)) 0

-- ---- levels leave no loop

module _ (sh : Sheet) (level : ℕ → ℕ) (lv : Levels sh level) where
  plus_keeps : (a b : ℕ) → plus sh a b ≡ true → level a ≤ level b
  plus_keeps a b h =
      let r = drawn_elim sh (λ e. e) a b h in
      let d = r.2 in
      let n : node sh ((sh.trigger r.0).event r.1) ≡ true = rw d.leaves d.at_node in
      omega (arith, lv.no_lower r.0 r.1 d.row d.counting d.place n, ap level d.leaves, ap level d.enters)

  minus_raises : (a b : ℕ) → minus sh a b ≡ true → level a < level b
  minus_raises a b h =
      let r = drawn_elim sh conf a b h in
      let d = r.2 in
      let n : node sh (conf ((sh.trigger r.0).event r.1)) ≡ true = rw d.leaves d.at_node in
      omega (arith, lv.above r.0 r.1 d.row d.counting d.place n, ap level d.leaves, ap level d.enters)

  edge_keeps : (a b : ℕ) → edge sh a b ≡ true → level a ≤ level b
  unfolding edge
  edge_keeps a b h =
      ⊎_elim
      (λ (p : plus sh a b ≡ true). plus_keeps a b p)
      (λ (m : minus sh a b ≡ true). omega (arith, minus_raises a b m))
      (or_cases (plus sh a b) (minus sh a b) h)

  reaches_keeps : {a b : ℕ} → Reaches (edge sh) a b → level a ≤ level b
  reaches_keeps here = omega arith
  reaches_keeps (onward {a = a} {m = m} {b = b} e w) = omega (arith, edge_keeps a m e, reaches_keeps w)

  pub levels_noloop : NoLoop sh
  levels_noloop a b c = omega (arith, minus_raises a b c.negative, reaches_keeps c.back)

  -- ---- levels stratify the triggers that count

  abbrev raised : ℕ → ℕ
  raised = up sh level

  up_node : (e : ℕ) → node sh e ≡ true → raised e ≡ suc (level e)
  unfolding up
  up_node e n = rw n refl

  up_other : (e : ℕ) → node sh e ≡ false → raised e ≡ 0
  unfolding up
  up_other e n = rw n refl

  -- the head of a trigger that counts is a node
  pub up_head : (i : ℕ) → i < sh.trigger_count → counts sh i ≡ true → up sh level (sh.trigger i).head ≡ suc (level (sh.trigger i).head)
  up_head i l o = up_node (sh.trigger i).head (head_node sh i l o)

  pub up_most : (m : ℕ) → ((e : ℕ) → level e ≤ m) → (e : ℕ) → up sh level e ≤ suc m
  up_most m h e =
      ⊎_elim
      (λ (n : node sh e ≡ true). omega (arith, up_node e n, h e))
      (λ (n : node sh e ≡ false). omega (arith, up_other e n))
      (test (node sh e))

  pub levels_stratified : (on : ℕ → Bool) → ((i : ℕ) → on i ≡ true → counts sh i ≡ true) → Stratified sh on (up sh level)
  levels_stratified on oc i j l o m =
      let a : ℕ = (sh.trigger i).event j in
      let c : ℕ = conf a in
      let k : counts sh i ≡ true = oc i o in
      let h = up_head i l k in (
        ⊎_elim
            (λ (n : node sh a ≡ true). omega (arith, up_node a n, lv.no_lower i j l k m n))
            (λ (n : node sh a ≡ false). omega (arith, up_other a n))
            (test (node sh a)),
        ⊎_elim
            (λ (n : node sh c ≡ true). omega (arith, up_node c n, lv.above i j l k m n))
            (λ (n : node sh c ≡ false). omega (arith, up_other c n))
            (test (node sh c)),
      )

-- a trigger that can fire counts
pub ready_counts : (sh : Sheet) (ST : Roles) (i : ℕ) → ready sh ST i ≡ true → counts sh i ≡ true
unfolding ready
ready_counts sh ST i h = (counts_says sh i).1 (eqb-true (sh.trigger i).delay 0 (and_left (immediate (sh.trigger i)) (allows ST (sh.trigger i)) h))

-- THE THEOREM: levels that meet the rule are there exactly when there is no loop, and then none need be above 128
pub levels_exact : (sh : Sheet) → HeadsBelow sh → NoLoop sh ↔ ((level : ℕ → ℕ) × Levels sh level × ((e : ℕ) → level e ≤ EVENTS))
levels_exact sh hb = (λ nl. (level_of sh, noloop_levels sh hb nl, level_most sh), λ r. levels_noloop sh r.0 r.1)
