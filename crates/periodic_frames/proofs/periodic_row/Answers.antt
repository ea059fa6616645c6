-- `periodic_frames::periodic_row` meets its contract. The loop's invariant: the bytes before the index are the row's.
-- Assumes nothing.
use Rattle.std.proofs.Common.{◌<◌, ◌≢◌, length, arith, get_or-set_other, get_or-set_same, below_more}
use Rattle.periodic_frames.proofs.Bytes.{row_is}
use Rattle.periodic_frames.proofs.periodic_row.Goals as goal

pub loop-i-preserved : goal.loop-i-preserved
loop-i-preserved c =
    below_more _ _
    (λ k h. let ne : k ≢ c.loop-i.i = omega arith in rw get_or-set_other (c.loop-i.invariant k h))
    (let lt : c.loop-i.i < length c.loop-i.b-items = omega arith in rw get_or-set_same c.byte_at.ensures)

pub returns : goal.returns
returns c =
    row_is _ _ c.loop-i-test.array_long (λ k h. c.loop-i.invariant k (omega arith))
