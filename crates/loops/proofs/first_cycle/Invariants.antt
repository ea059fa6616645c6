-- `loops::first_cycle` meets its contract. The invariants: no pair before the one at hand is a − edge on a cycle, in the inner loop by from and to, in the outer by from.
-- Assumes nothing.
use mathlib.Core.Path.{◌≡◌}
use mathlib.Core.Bool.{false}
use Prim.Native.Nat.{ℕ, ◌+◌, ◌*◌, ◌<◌}
use Rattle.reach_rows.specs.Rows.{edges_of}
use Rattle.loops.specs.Tested.{cycle_at}
use Rattle.loops.proofs.first_cycle.Given as goal

abbrev pub invariant-loop-to : goal.invariant-loop-to
invariant-loop-to l =
    (k : ℕ) → k < 128 * l.from + l.to → cycle_at (edges_of l.minus) (edges_of l.reach) k ≡ false

abbrev pub invariant-loop-from : goal.invariant-loop-from
invariant-loop-from l =
    (k : ℕ) → k < 128 * l.from → cycle_at (edges_of l.minus) (edges_of l.reach) k ≡ false
