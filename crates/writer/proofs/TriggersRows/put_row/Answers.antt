-- `writer::Triggers::put_row` meets its contract: the counts are those that stand in the row, so what is put is the line of its frame.
-- Assumes nothing.
use mathlib.Core.Path.{◌≡◌}
use Prim.Native.Nat.{◌+◌, ◌*◌}
use Rattle.tables.specs.Layout.{TRIGGER_BYTES}
use Rattle.writer.proofs.Laws.Puts.{puts_frame, count_said, body_said}
use native.Mathlib.Omega.{arith}
use Rattle.writer.proofs.TriggersRows.put_row.Goals as goal

pub returns : goal.returns
returns c =
    let p = c.requires in
    let t = c.args.table.now in
    let i = c.args.i in
    let k = c.row_index-from.result in
    let same : k ≡ i = c.row_index-from.ensures in
    let e = count_said t (TRIGGER_BYTES * k) (TRIGGER_BYTES * i) _ _ (omega arith) c.byte.ensures c.index-e.ensures in
    let d = count_said t (TRIGGER_BYTES * k + 1) (TRIGGER_BYTES * i + 1) _ _ (omega arith) c.byte-2.ensures c.index-c.ensures in
    puts_frame _ _ _ _ _ _ (body_said t (TRIGGER_BYTES * k) (TRIGGER_BYTES * i) _ _ (omega arith) e d) c.put_body.ensures
