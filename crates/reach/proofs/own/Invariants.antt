-- `reach::own` meets its contract. The loop's invariant: the events below a reach themselves.
-- Assumes nothing.
use lib.Dec.{eqb}
use Rattle.reach_rows.specs.Rows.{Become}
use Rattle.reach.specs.Laws.{so_far}
use Rattle.reach.proofs.own.Given as goal

abbrev pub invariant-loop-a : goal.invariant-loop-a
invariant-loop-a l =
    Become (so_far eqb l.a) l.initial.rows l.rows
