-- `roles_after::on_after` meets its contract: it is the definition's tests.
-- Assumes nothing.
use Rattle.theory.specs.Instant.{roles_after}
use Rattle.roles_after.proofs.on_after.Goals as goal

pub returns : goal.returns
unfolding roles_after
returns c =
    cc
