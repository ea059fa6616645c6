-- The dependency graph and its loops: document 01, 'The loop test'. And levels, through which a sheet without a loop has its one solution.
-- Assumes nothing.
use Rattle.std.specs.Prelude.{◌≡◌, Bool, true, ◌&&◌, ◌||◌, ℕ, ◌+◌, ◌*◌, ◌≤◌, ◌<◌, eqb}
use Rattle.theory.specs.Numbers.{EVENTS}
use Rattle.theory.specs.Below.{any_below}
use Rattle.theory.specs.Events.{conf}
use Rattle.theory.specs.Sheet.{Sheet}
use Rattle.theory.specs.Instant.{immediate}

-- The edges of a graph: `E a b ≡ true` says that there is one from a to b.
abbrev pub Edges : Type 0
Edges = ℕ → ℕ → Bool

-- WHICH ROWS COUNT: trigger i, of those below the trigger count, draws a node and edges when its delay is 0.
unfoldable pub counts : Sheet → ℕ → Bool
counts sh i = immediate (sh.trigger i)

-- e is a node: the head event of a trigger that counts
unfoldable pub node : Sheet → ℕ → Bool
node sh e = any_below sh.trigger_count (λ i. counts sh i && eqb (sh.trigger i).head e)

-- a is a node, and some trigger that counts has the head b and a body event E with `from E` = a
unfoldable pub drawn : (ℕ → ℕ) → Sheet → Edges
drawn from sh a b =
    node sh a
    && any_below sh.trigger_count (λ i.
    (counts sh i && eqb (sh.trigger i).head b)
    && any_below (sh.trigger i).event_count (λ j. eqb (from ((sh.trigger i).event j)) a))

-- an edge + from E to the head
abbrev pub plus : Sheet → Edges
plus = drawn (λ e. e)

-- an edge − from conf(E) to the head
abbrev pub minus : Sheet → Edges
minus = drawn conf

unfoldable pub edge : Sheet → Edges
edge sh a b = plus sh a b || minus sh a b

-- a reaches b by zero or more edges
pub data Reaches (E : Edges) : ℕ → ℕ → Type 0 where
  here : {a : ℕ} → Reaches E a a
  onward : {a m b : ℕ} → E a m ≡ true → Reaches E m b → Reaches E a b

-- a − edge from a to b lies on a cycle: b reaches a
pub record OnCycle (sh : Sheet) (a b : ℕ) : Type 0 where
  pub negative : minus sh a b ≡ true
  pub back : Reaches (edge sh) b a

-- A sheet without a loop: no − edge lies on a cycle.
abbrev pub NoLoop : Sheet → Type 0
NoLoop sh = (a b : ℕ) → OnCycle sh a b → ⊥

-- a pair as a number: 128 × from + to
abbrev pub pair_place : ℕ → ℕ → ℕ
pair_place from to = EVENTS * from + to

-- The place of a loop: the first − edge on a cycle, in order of from and then to, given as that number.
pub record LoopAt (sh : Sheet) (place : ℕ) : Type 0 where
  pub from : ℕ
  pub to : ℕ
  pub is_pair : place ≡ pair_place from to
  pub from_event : from < EVENTS
  pub to_event : to < EVENTS
  pub cycle : OnCycle sh from to
  pub is_first : (a b : ℕ) → a < EVENTS → b < EVENTS → OnCycle sh a b → place ≤ pair_place a b

-- Levels that meet this rule: for each trigger that counts, the head stands no lower than its body events that are nodes, and above the nodes that conflict with a body event.
pub record Levels (sh : Sheet) (level : ℕ → ℕ) : Type 0 where
  pub no_lower : (i j : ℕ) → i < sh.trigger_count → counts sh i ≡ true → j < (sh.trigger i).event_count
      → node sh ((sh.trigger i).event j) ≡ true → level ((sh.trigger i).event j) ≤ level (sh.trigger i).head
  pub above : (i j : ℕ) → i < sh.trigger_count → counts sh i ≡ true → j < (sh.trigger i).event_count
      → node sh (conf ((sh.trigger i).event j)) ≡ true → level (conf ((sh.trigger i).event j)) < level (sh.trigger i).head
