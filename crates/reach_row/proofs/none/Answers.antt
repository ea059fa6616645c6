-- `reach_row::none` meets its contract: 128 truth values, and none of them true.
-- Assumes nothing.
use Rattle.reach_row.specs.Laws.Row.{empty_row}
use Rattle.reach_row.proofs.none.Goals as goal

pub returns : goal.returns
returns c =
    empty_row
