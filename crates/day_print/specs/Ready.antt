-- What the lines of a day are printed from: a good input, a last instant within its limit, and a buffer of its length.
-- Assumes nothing.
use Rattle.std.specs.Prelude.{◌≡◌, List, ℕ, ◌≤◌, length}
use Rattle.tables.specs.Lent.{rules}
use Rattle.tape_tests.specs.Tests.{LONGEST_DAY}
use Rattle.day_input.specs.declared.Plan.{Plan}
use Rattle.day_run.specs.Run.{GoodInput}
use Rattle.day_lines.specs.Lines.{OUTPUT_BYTES}

pub record Ready (plan : Plan) (p t tape out : List ℕ) : Type 0 where
  pub input : GoodInput (rules plan.counts p t) tape
  pub last : plan.last ≤ LONGEST_DAY
  pub buffer : length out ≡ OUTPUT_BYTES
