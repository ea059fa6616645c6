-- The contract of this crate's public function leaves one possible answer: any two that it allows are equal.
-- Assumes nothing.
use Rattle.std.specs.Prelude.{◌≡◌, List, ℕ}
use Rattle.theory.proofs.Laws.Exact.{exact}
use Rattle.tables.specs.Layout.{periodic_at}
use Rattle.periodics.specs.declared.PeriodicRow.{PeriodicRow}
use Rattle.periodics.specs.Rows.{periodic_of}

-- a periodic row is determined by what it is to the model
pub periodic_row_exact : (table : List ℕ) (i : ℕ) (r r' : PeriodicRow) → periodic_of r ≡ periodic_at table i → periodic_of r' ≡ periodic_at table i → r ≡ r'
periodic_row_exact table i r r' h h' =
    let p : periodic_of r ≡ periodic_of r' = exact h h' in
    λ k. record { begin = (p k).begin; end = (p k).end; period = (p k).period; first = (p k).first; run = (p k).run; event = (p k).event; priority = (p k).priority }
