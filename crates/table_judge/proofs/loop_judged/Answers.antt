-- `table_judge::loop_judged` meets its contract: the answer of the loop test, with its verdict.
-- Assumes nothing.
use Rattle.table_judge.proofs.Laws.Answer.{loop_judged_is}
use Rattle.table_judge.proofs.loop_judged.Goals as goal

pub returns : goal.returns
returns c =
    loop_judged_is _ _ _ c.loop_test-t.ensures c.loop_verdict.ensures
