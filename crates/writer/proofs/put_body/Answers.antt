-- `writer::put_body` meets its contract: the first bytes of the longest frame are put, as many as the counts say.
-- Assumes nothing.
use Rattle.writer.proofs.Laws.Puts.{puts_frame, part_said}
use Rattle.writer.proofs.put_body.Goals as goal

pub returns : goal.returns
returns c =
    let a = c.args in
    puts_frame _ _ _ _ _ _ (part_said a.table.now _ a.from a.e a.c _ c.trigger_whole-frame.ensures c.trigger_size-size.ensures) c.put.ensures
