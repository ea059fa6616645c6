-- `row_judge::first_unfit` meets its contract. The loop's invariant: of the first k rows all hold what they may.
-- Assumes nothing.
use mathlib.Core.Path.{◌≡◌}
use mathlib.Core.Bool.{not}
use Rattle.theory.specs.Below.{first_below}
use Rattle.tables.specs.Lent.{rules_of, sheet_in}
use Rattle.row_judge.specs.Judge.{row_fits}
use Rattle.row_judge.proofs.first_unfit.Given as goal

abbrev pub invariant-loop-k : goal.invariant-loop-k
invariant-loop-k l =
    first_below l.k (λ i. not (row_fits (sheet_in (rules_of l.given)) i)) ≡ l.k
