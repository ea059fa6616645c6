-- `row_counts::counts_agree` meets its contract: both counts are compared in an end frame alone.
-- Assumes nothing.
use borrow.Author.Tests.{eq-eqb, ne_eqb}
use Rattle.row_counts.specs.Counts.{counts_agree}
use Rattle.row_counts.proofs.counts_agree.Goals as goal

pub returns-then-k-eq-END : goal.returns-then-k-eq-END
unfolding counts_agree
returns-then-k-eq-END c =
    rw (eq-eqb _ _ c.if-k-eq-END.true)

pub returns : goal.returns
unfolding counts_agree
returns c =
    rw (ne_eqb _ _ c.if-k-eq-END.false)
