-- The contracts of `none` and `link` leave one possible content of the rows: each row of the code is whole.
-- Assumes nothing.
use Rattle.std.specs.Prelude.{◌≡◌, refl, Bool, false, List, [], ℕ, ◌<◌, get_or}
use Rattle.std.proofs.Common.{sym, ◌∙◌, arith, ext_get_or, lt-ltb}
use Rattle.theory.specs.Numbers.{EVENTS}
use Rattle.theory.specs.Graph.{Edges}
use Rattle.reach_row.specs.Row.{Row}
use Rattle.reach_row.specs.Laws.Exact.{row_one}
use Rattle.reach_rows.specs.Rows.{edges_of, whole_rows, RowsAre, Become, linked}

-- two arrays of rows that hold the same graph are equal
rows_one : (E : Edges) (r r' : List Row) → RowsAre E r → RowsAre E r' → r ≡ r'
rows_one E r r' h h' =
    ext_get_or [] r r' (h.size ∙ sym h'.size)
    (λ a l.
    let m : a < EVENTS = omega (arith, h.size) in
    row_one (E a) (get_or r a []) (get_or r' a []) (h.each a m) (h'.each a m))

rows_own : (rows : List Row) → whole_rows rows → RowsAre (edges_of rows) rows
unfolding edges_of
rows_own rows h = record { size = h.0; each = λ a l. record { size = h.1 a l; says = λ b m. rw (lt-ltb a EVENTS l) refl } }

pub none_exact : (r r' : List Row) → RowsAre (λ _ _. false) r → RowsAre (λ _ _. false) r' → r ≡ r'
none_exact = rows_one (λ _ _. false)

-- where a graph becomes another, one array of rows can come of each
pub become_exact : (F : Edges → Edges) (rows r r' : List Row) → whole_rows rows → Become F rows r → Become F rows r' → r ≡ r'
become_exact F rows r r' h e e' = rows_one (F (edges_of rows)) r r' (e (edges_of rows) (rows_own rows h)) (e' (edges_of rows) (rows_own rows h))

pub link_exact : (rows : List Row) (a b : ℕ) (on : Bool) (r r' : List Row) → whole_rows rows → Become (linked on a b) rows r → Become (linked on a b) rows r' → r ≡ r'
link_exact rows a b on = become_exact (linked on a b) rows
