-- `cases::four` meets its contract: it is the number of the four digits, which fits.
-- Assumes nothing.
use mathlib.Core.Path.{◌≡◌}
use Prim.Native.Nat.{◌+◌, ◌-◌}
use Rattle.cases.specs.Digits.{number_of}
use Rattle.cases.specs.Laws.{four_fits}
use native.Mathlib.Omega.{arith}
use Rattle.cases.proofs.four.Goals as goal

pub returns : goal.returns
returns c =
    let a = c.args in
    let n : a.from + 4 - a.from ≡ 4 = omega arith in
    let e : c.value.result ≡ number_of a.line.now a.from 4 = rw n at c.value.ensures in
    omega (arith, e, four_fits a.line.now a.from)
