-- `line_readers::column_of` meets its contract: in each arm the name is known, and `column_of` computes.
-- Assumes nothing.
use mathlib.Core.Path.{ap}
use Rattle.line_readers.specs.Column.{byte_column}
use Rattle.line_readers.proofs.column_of.Goals as goal

pub returns-in-Frame : goal.returns-in-Frame
returns-in-Frame c =
    rw c.in-Frame.is c.frame_column.ensures

pub returns-in-Check : goal.returns-in-Check
returns-in-Check c =
    rw c.in-Check.is c.check_column.ensures

pub returns-in-Field : goal.returns-in-Field
returns-in-Field c =
    rw c.in-Field.is (ap byte_column c.row_index.ensures)
