-- `day_print::run` meets its contract. The loop's invariant is the run's `Standing` and what is `Written`: before each instant the state is that of any run, the tape stands at its requests, and the lines so far are in the buffer.
-- Assumes nothing.
use Rattle.tables.specs.Lent.{rules_of, lent}
use Rattle.day_run.specs.Run.{Standing}
use Rattle.day_lines.specs.Written.{Written}
use Rattle.day_print.proofs.run.Given as goal

abbrev pub invariant-loop-t : goal.invariant-loop-t
invariant-loop-t l =
    Standing (rules_of l.given) l.tape l.t (lent l.instant l.enabled l.waiting l.events) l.at × Written (rules_of l.given) l.tape l.t l.initial.out l.out
