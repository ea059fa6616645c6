-- `cases::value` meets its contract: one digit more is the definition's next number.
-- Assumes nothing.
use mathlib.Core.Path.{◌≡◌, refl, ◌∙◌, ap}
use Prim.Native.Nat.{◌-◌}
use Rattle.cases.specs.Digits.{with_digit}
use Rattle.cases.specs.Laws.{number_next}
use borrow.Author.Rules.{rules}
use native.Mathlib.Omega.{arith}
use Rattle.cases.proofs.value.Goals as goal

pub loop-i-init : goal.loop-i-init
loop-i-init c =
    let z : c.args.from - c.args.from ≡ 0 = omega arith in (search rules, rw z refl)

pub loop-i-preserved : goal.loop-i-preserved
loop-i-preserved c =
    let a = c.args in
    (search rules, c.with_digit-v.ensures ∙ ap (with_digit c.loop-i.v) c.byte.ensures ∙ number_next a.line.now a.from c.loop-i.i c.loop-i.v (search rules) c.loop-i.invariant.1)

pub returns : goal.returns
returns c =
    let a = c.args in
    let same : c.loop-i.i - a.from ≡ a.to - a.from = omega arith in
    rw same at c.loop-i.invariant.1
