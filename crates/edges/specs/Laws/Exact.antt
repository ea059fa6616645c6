-- The contracts of this crate's public functions leave one possible answer: the rows of the code are there, one for each event, and each is whole.
-- Assumes nothing.
use Rattle.std.specs.Prelude.{◌≡◌, Bool, List, ℕ}
use Rattle.theory.specs.Sheet.{Sheet}
use Rattle.theory.specs.Graph.{node}
use Rattle.reach_row.specs.Row.{Row, RowIs}
use Rattle.reach_row.specs.Laws.Exact.{row_one}
use Rattle.reach_rows.specs.Rows.{Become, whole_rows}
use Rattle.reach_rows.specs.Laws.Exact.{become_exact}
use Rattle.edges.specs.Drawing.{tail_of, draws_below, added_from}

pub nodes_exact : (sh : Sheet) (r r' : Row) → RowIs (node sh) r → RowIs (node sh) r' → r ≡ r'
nodes_exact sh = row_one (node sh)

pub draw_exact : (sh : Sheet) (n : ℕ) (heads : Row) (negative : Bool) (rows r r' : List Row) → whole_rows rows
    → Become (added_from heads (draws_below (tail_of negative) sh n)) rows r → Become (added_from heads (draws_below (tail_of negative) sh n)) rows r' → r ≡ r'
draw_exact sh n heads negative = become_exact (added_from heads (draws_below (tail_of negative) sh n))
