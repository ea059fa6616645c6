-- `loops::loop_test` meets its contract: the calls in a line make the rows of the − edges, of all edges and of the reach, and these give what the definition answers.
-- Assumes nothing.
use Rattle.loops.specs.Laws.Tested.{tested_is}
use Rattle.loops.proofs.loop_test.Goals as goal

pub returns : goal.returns
returns c =
    let a = c.args in
    tested_is a.n _ _ _ _ _ _ c.nodes-heads.ensures c.none-minus.ensures c.draw.ensures c.draw-2.ensures c.closed-reach.ensures _ _ c.first_cycle-found.ensures c.levels-levels.ensures
