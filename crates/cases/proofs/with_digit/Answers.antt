-- `cases::with_digit` meets its contract: what it calls is the definition's part, and a digit is small.
-- Assumes nothing.
use mathlib.Core.Path.{refl, ◌∙◌, ap}
use Rattle.std.specs.Option.{unwrap_or}
use native.Mathlib.Omega.{arith}
use Rattle.cases.specs.Digits.{with_digit}
use Rattle.cases.specs.Laws.{small}
use Rattle.cases.proofs.with_digit.Goals as goal

pub overflow_add-result : goal.overflow_add-result
overflow_add-result c =
    let e = c.unwrap_or.ensures ∙ ap (λ d. unwrap_or d 0) c.digit.ensures in
    omega (arith, e, small c.args.b)

pub returns : goal.returns
unfolding with_digit
returns c =
    rw (c.unwrap_or.ensures, c.digit.ensures) refl
