-- `cases::value` meets its contract. The loop's invariant: v is the number up to i, which of an empty range is its start.
-- Assumes nothing.
use mathlib.Core.Path.{◌≡◌}
use Prim.Native.Nat.{◌-◌, ◌≤◌}
use Rattle.cases.specs.Digits.{number_of}
use Rattle.cases.proofs.value.Given as goal

abbrev pub invariant-loop-i : goal.invariant-loop-i
invariant-loop-i l =
    (l.i - l.from ≤ l.to - l.from) × (l.v ≡ number_of l.line l.from (l.i - l.from))
