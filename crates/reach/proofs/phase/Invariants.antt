-- `reach::phase` meets its contract. The loop's invariant: the rows below a have taken over what k reaches. Row k and column k stay as they were, so that it can be done in place.
-- Assumes nothing.
use Rattle.reach_rows.specs.Rows.{Become}
use Rattle.reach.specs.Laws.{so_far, onward}
use Rattle.reach.proofs.phase.Given as goal

abbrev pub invariant-loop-a : goal.invariant-loop-a
invariant-loop-a l =
    Become (λ E. so_far (onward l.k E) l.a E) l.initial.rows l.rows
