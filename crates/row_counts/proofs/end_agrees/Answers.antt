-- `row_counts::end_agrees` meets its contract: the calls in a line are the counts of the frame and of the rows.
-- Assumes nothing.
use Rattle.row_counts.proofs.end_agrees.Goals as goal

pub returns : goal.returns
returns c =
    cc
