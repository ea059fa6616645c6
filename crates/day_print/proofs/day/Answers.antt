-- `day_print::day` meets its contract: the buffer has its length, or nothing is written.
-- Assumes nothing.
use mathlib.Core.Path.{refl, ap}
use Rattle.std.specs.Prelude.{Err}
use Rattle.day_print.proofs.day.Goals as goal

pub returns-then-out-eq-OUTPUT_BYTES : goal.returns-then-out-eq-OUTPUT_BYTES
returns-then-out-eq-OUTPUT_BYTES c =
    record { fits = λ _. c.print_day.ensures; unfit = λ n. absurd (n c.if-out-eq-OUTPUT_BYTES.true) }

pub returns : goal.returns
returns c =
    record { fits = λ e. absurd (c.if-out-eq-OUTPUT_BYTES.false e); unfit = λ _. (ap Err c.refusal_of.ensures, refl) }
