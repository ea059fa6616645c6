-- The contract of this crate's public function leaves one possible answer: the rows of the code are there, one for each event, and each is whole.
-- Assumes nothing.
use Rattle.std.specs.Prelude.{◌≡◌, List}
use Rattle.theory.specs.Numbers.{EVENTS}
use Rattle.theory.specs.LoopTest.{through}
use Rattle.reach_row.specs.Row.{Row}
use Rattle.reach_rows.specs.Rows.{Become, whole_rows}
use Rattle.reach_rows.specs.Laws.Exact.{become_exact}

pub closed_exact : (edges r r' : List Row) → whole_rows edges → Become (λ E. through E EVENTS) edges r → Become (λ E. through E EVENTS) edges r' → r ≡ r'
closed_exact edges = become_exact (λ E. through E EVENTS) edges
