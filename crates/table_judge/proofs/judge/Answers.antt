-- `table_judge::judge` meets its contract: the verdict on the rows decides, and only where they pass is the loop test asked.
-- Assumes nothing.
use Rattle.tables.specs.Lent.{rules_of}
use Rattle.table_judge.proofs.Laws.Answer.{rows_refused, rows_passed}
use Rattle.table_judge.proofs.judge.Goals as goal

pub returns-in-Ok : goal.returns-in-Ok
returns-in-Ok c =
    let a = c.args in
    rows_passed (rules_of a.given.now) _ c.rows_judged-rows.ensures c.in-Ok.is _ c.loop_judged.ensures

pub returns-in-Err : goal.returns-in-Err
returns-in-Err c =
    let a = c.args in
    rows_refused (rules_of a.given.now) _ c.rows_judged-rows.ensures _ c.in-Err.is
