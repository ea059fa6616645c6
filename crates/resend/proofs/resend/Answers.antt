-- `resend::resend` meets its contract: both lengths first, or nothing is written.
-- Assumes nothing.
use mathlib.Core.Path.{refl, ap}
use Rattle.std.specs.Prelude.{Err}
use borrow.Author.Rules.{rules}
use native.Mathlib.Omega.{arith}
use Rattle.resend.proofs.resend.Goals as goal

pub returns-then-input-gt-INPUT_BYTES : goal.returns-then-input-gt-INPUT_BYTES
returns-then-input-gt-INPUT_BYTES c =
    record { fits = λ a b. absurd (omega (arith, a, c.if-input-gt-INPUT_BYTES.true)); unfit = λ _. (ap Err c.refusal_of.ensures, refl) }

pub returns-then-out-ne-SHEET_BYTES : goal.returns-then-out-ne-SHEET_BYTES
returns-then-out-ne-SHEET_BYTES c =
    record { fits = λ a b. absurd (c.if-out-ne-SHEET_BYTES.true b); unfit = λ _. (ap Err c.refusal_of-then-out-ne-SHEET_BYTES.ensures, refl) }

pub returns : goal.returns
returns c =
    record { fits = λ a b. c.resend_within.ensures; unfit = λ n. absurd (n (omega (arith, c.if-input-gt-INPUT_BYTES.false), search rules)) }
