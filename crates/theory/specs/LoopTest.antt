-- The loop test as it is worked out: 'the test works over the reach, for each event the row of events that it reaches' (document 01, 'The loop test').
-- What it answers is what `Graph` says: `Laws.Reach` and `Laws.Loop` prove it.
-- Assumes nothing.
use Rattle.std.specs.Prelude.{Bool, ◌&&◌, ◌||◌, ℕ, zero, suc, ◌*◌, ◌/◌, ◌%◌, eqb}
use Rattle.theory.specs.Numbers.{EVENTS}
use Rattle.theory.specs.Below.{count_below, first_below}
use Rattle.theory.specs.Sheet.{Sheet}
use Rattle.theory.specs.Graph.{Edges, minus, edge}

-- b is reached from a by edges between which stand only events below k
unfoldable pub through : Edges → ℕ → Edges
through E zero a b = eqb a b || E a b
through E (suc k) a b = through E k a b || (through E k a k && through E k k b)

-- the row of events that a reaches
abbrev pub reach : Sheet → Edges
reach sh = through (edge sh) EVENTS

-- the − edge from a to b lies on a cycle, by the reach
abbrev pub on_cycle : Sheet → ℕ → ℕ → Bool
on_cycle sh a b = minus sh a b && reach sh b a

-- the pairs of events as the numbers 128 × from + to
abbrev pub PAIRS : ℕ
PAIRS = EVENTS * EVENTS

-- LOOP's place: the first pair, in order of from and then to, that lies on a cycle; the number of pairs where there is none
unfoldable pub loop_place : Sheet → ℕ
loop_place sh = first_below PAIRS (λ k. on_cycle sh (k / EVENTS) (k % EVENTS))

-- levels: how many events reach e
unfoldable pub level_of : Sheet → ℕ → ℕ
level_of sh e = count_below EVENTS (λ x. reach sh x e)
