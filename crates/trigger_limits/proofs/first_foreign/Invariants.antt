-- `trigger_limits::first_foreign` meets its contract. The loop's invariant: none of the bytes below j is found.
-- Assumes nothing.
use mathlib.Core.Path.{◌≡◌}
use mathlib.Core.Bool.{not}
use Prim.Native.Nat.{◌+◌}
use Rattle.theory.specs.Below.{first_below}
use Rattle.theory.specs.Sheet.{of_roles}
use Rattle.tables.specs.Layout.{byte_at}
use Rattle.trigger_limits.proofs.first_foreign.Given as goal

abbrev pub invariant-loop-j : goal.invariant-loop-j
invariant-loop-j l =
    first_below l.j (λ x. not (of_roles l.roles (byte_at l.table (l.at + x)))) ≡ l.j
