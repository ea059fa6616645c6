-- `roles_after::roles_after` meets its contract. The loop's invariant: the roles below r have had their turn.
-- Assumes nothing.
use Rattle.roles_after.specs.Laws.{roles_none, roles_next}
use Rattle.roles_after.proofs.roles_after.Goals as goal

pub loop-r-init : goal.loop-r-init
loop-r-init c =
    roles_none _ _

pub loop-r-preserved : goal.loop-r-preserved
loop-r-preserved c =
    roles_next _ _ _ _ _ _ c.loop-r.invariant c.on_after-on.ensures c.with_role-after.ensures
