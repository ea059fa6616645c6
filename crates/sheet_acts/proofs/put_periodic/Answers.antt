-- `sheet_acts::put_periodic` meets its contract: a row of 16 bytes below 128 lies in the table, and a frame of another kind leaves it as it is.
-- Assumes nothing.
use mathlib.Core.Path.{ap, ◌∙◌}
use Prim.Native.Nat.{ℕ, ◌*◌}
use native.Mathlib.Omega.{arith}
use lib.ListN.{length}
use Rattle.periodic_frames.specs.Laws.{length_periodic}
use Rattle.sheet_acts.specs.Laws.{table_put, table_kept}
use Rattle.sheet_acts.proofs.put_periodic.Goals as goal

pub copy_in-requires : goal.copy_in-requires
copy_in-requires c =
    omega (arith, c.from.ensures, c.requires c.if-k-eq-PERIODIC.true, ap length c.periodic_row-row.ensures ∙ length_periodic _)

pub returns-then-k-eq-PERIODIC : goal.returns-then-k-eq-PERIODIC
returns-then-k-eq-PERIODIC c =
    c.copy_in.ensures ∙ table_put _ _ _ _ 16 _ _ _ c.if-k-eq-PERIODIC.true c.periodic_row-row.ensures (length_periodic _) (ap (λ (x : ℕ). 16 * x) c.from.ensures)

pub returns-else-k-eq-PERIODIC : goal.returns-else-k-eq-PERIODIC
returns-else-k-eq-PERIODIC c =
    table_kept _ _ _ _ _ c.if-k-eq-PERIODIC.false
