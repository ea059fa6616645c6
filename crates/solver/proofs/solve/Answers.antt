-- `solver::solve` meets its contract: what it leaves as it is, no sheet in good order with a buffer of 128 numbers has.
-- Assumes nothing.
use Rattle.solver.specs.Laws.{solved_none}
use native.Mathlib.Omega.{arith}
use Rattle.solver.proofs.solve.Goals as goal

pub returns-then-n-gt-TRIGGER_ROWS : goal.returns-then-n-gt-TRIGGER_ROWS
returns-then-n-gt-TRIGGER_ROWS c =
    solved_none _ _ _ _ _ (λ l m. omega (arith, c.if-n-gt-TRIGGER_ROWS.true))
