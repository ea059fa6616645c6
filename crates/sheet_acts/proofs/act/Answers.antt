-- `sheet_acts::act` meets its contract: the tables of their lengths are the whole of what is lent.
-- Assumes nothing.
use Rattle.sheet_acts.proofs.act.Goals as goal

pub returns : goal.returns
returns c =
    let p = (rw c.unwrap-per.ensures at c.as_mut_array.ensures.cases).same in
    let t = (rw c.unwrap-trg.ensures at c.as_mut_array-2.ensures.cases).same in
    rw (p, t) at c.acted.ensures
