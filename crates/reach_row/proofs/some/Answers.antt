-- `reach_row::some` meets its contract: some truth value is true where some event is reached.
-- Assumes nothing.
use mathlib.Core.Path.{◌≡◌, refl, ◌∙◌}
use mathlib.Core.Bool.{Bool, true, false, beq}
use Rattle.reach_row.specs.Laws.Row.{some_truth}
use Rattle.reach_row.proofs.some.Goals as goal

pub returns : goal.returns
returns c =
    c.contains.ensures.value ∙ some_truth c.args.row.now _ same c.told-row
  where
    same : (t : Bool) → beq t true ≡ t
    same true = refl
    same false = refl
