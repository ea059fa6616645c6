-- `fields::bytes_before` meets its contract: each number has its arm, and those past the last field have one.
-- Assumes nothing.
use Prim.Native.Nat.{ℕ, ◌≤◌}
use native.Mathlib.Omega.{arith}
use Rattle.fields.specs.Laws.{widths_past}
use Rattle.fields.proofs.bytes_before.Goals as goal

pub returns-in_default : goal.returns-in_default
returns-in_default c =
    let i : ℕ = c.args.i in
    let r = c.in_default.in_default-own.rest in
    let a : 3 ≤ i = omega (arith, r.0.0.0.0.0.0.1, r.0.0.0.0.0.1, r.0.0.0.0.1) in
    let b : 5 ≤ i = omega (arith, a, r.0.0.0.1, r.0.0.1) in
    widths_past i (omega (arith, b, r.0.1, r.1))
