-- What the loop test answers for a sheet: the first − edge on a cycle as a pair, and the level of each event (document 01, 'The loop test').
-- Assumes nothing.
use Rattle.std.specs.Prelude.{Bool, cond, ◌&&◌, List, [], ◌∷◌, ℕ, zero, suc, ◌/◌, ◌%◌, ltb, None, Option, Some}
use Rattle.theory.specs.Numbers.{EVENTS}
use Rattle.theory.specs.Sheet.{Sheet}
use Rattle.theory.specs.Graph.{Edges}
use Rattle.theory.specs.LoopTest.{PAIRS, loop_place, level_of}
use Rattle.loops.specs.declared.Tested.{Tested}

-- the pair of number k, which is 128 × from + to; no pair has a number from 16,384 on
unfoldable pub found_at : ℕ → Option (ℕ × ℕ)
found_at k = cond (ltb k PAIRS) (Some (k / EVENTS, k % EVENTS)) None

-- the pair of number k is a − edge on a cycle
abbrev pub cycle_at : Edges → Edges → ℕ → Bool
cycle_at minus reach k = minus (k / EVENTS) (k % EVENTS) && reach (k % EVENTS) (k / EVENTS)

-- the list of f 0, f 1 and so on, n numbers
unfoldable pub tabulate : ℕ → (ℕ → ℕ) → List ℕ
tabulate zero f = []
tabulate (suc n) f = f zero ∷ tabulate n (λ i. f (suc i))

-- the whole answer
unfoldable pub tested : Sheet → Tested
tested sh = record { found = found_at (loop_place sh); levels = tabulate EVENTS (level_of sh) }
