-- `sheet_acts::put_trigger` meets its contract: a row of 13 bytes below 256 lies in the table, and a frame of another kind leaves it as it is.
-- Assumes nothing.
use mathlib.Core.Path.{ap, ◌∙◌}
use Prim.Native.Nat.{ℕ, ◌*◌}
use native.Mathlib.Omega.{arith}
use lib.ListN.{length}
use Rattle.trigger_frames.specs.Laws.{length_trigger}
use Rattle.sheet_acts.specs.Laws.{table_put, table_kept}
use Rattle.sheet_acts.proofs.put_trigger.Goals as goal

pub copy_in-requires : goal.copy_in-requires
copy_in-requires c =
    omega (arith, c.from.ensures, c.requires c.if-k-eq-TRIGGER.true, ap length c.trigger_row-row.ensures ∙ length_trigger _)

pub returns-then-k-eq-TRIGGER : goal.returns-then-k-eq-TRIGGER
returns-then-k-eq-TRIGGER c =
    c.copy_in.ensures ∙ table_put _ _ _ _ 13 _ _ _ c.if-k-eq-TRIGGER.true c.trigger_row-row.ensures (length_trigger _) (ap (λ (x : ℕ). 13 * x) c.from.ensures)

pub returns-else-k-eq-TRIGGER : goal.returns-else-k-eq-TRIGGER
returns-else-k-eq-TRIGGER c =
    table_kept _ _ _ _ _ c.if-k-eq-TRIGGER.false
