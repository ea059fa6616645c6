-- `reach_rows::none` meets its contract: 128 rows, and each without an event.
-- Assumes nothing.
use Rattle.reach_rows.specs.Laws.Rows.{empty_rows}
use Rattle.reach_rows.proofs.none.Goals as goal

pub returns : goal.returns
returns c =
    empty_rows _ c.none-row.ensures
