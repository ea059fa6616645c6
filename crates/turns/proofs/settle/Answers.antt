-- `turns::settle` meets its contract: the buffer of 128 numbers is the whole of what is lent.
-- Assumes nothing.
use Rattle.turns.proofs.settle.Goals as goal

pub returns : goal.returns
returns c =
    let whole = (rw c.unwrap-whole.ensures at c.as_mut_array.ensures.cases).same in
    rw whole at c.sweeps.ensures
