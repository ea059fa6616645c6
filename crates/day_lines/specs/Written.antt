-- The lines of a run of minutes in the lent buffer.
-- Assumes nothing.
use Rattle.std.specs.Prelude.{◌≡◌, List, ℕ, ◌*◌, length}
use Rattle.std.proofs.Math.Seq.{paste}
use Rattle.theory.specs.Model.{Trace}
use Rattle.tables.specs.Lent.{Rules}
use Rattle.day_run.specs.Run.{ModelOf}
use Rattle.day_lines.specs.Lines.{minute_lines, LINE}

-- over what it held, the buffer holds the lines of the first n instants: of any execution model; of a good input there is exactly one
pub record Written (R : Rules) (tape : List ℕ) (n : ℕ) (out out' : List ℕ) : Type 0 where
  pub size : length out' ≡ length out
  pub holds : (tr : Trace) → ModelOf R tape tr → out' ≡ paste out 0 (minute_lines tr n) (LINE * n)
