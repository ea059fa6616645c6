-- `triggers::counts_at` meets its contract: a trigger counts when its delay is 0.
-- Assumes nothing.
use mathlib.Core.Path.{refl, ◌∙◌}
use Rattle.theory.specs.Graph.{counts}
use Rattle.tables.specs.Layout.{sheet_of}
use Rattle.tables.proofs.Laws.{delay_byte}
use Rattle.triggers.proofs.counts_at.Goals as goal

pub returns : goal.returns
unfolding counts sheet_of
returns c =
    let a = c.args in
    λ n. rw (c.trigger_byte.ensures ∙ delay_byte a.triggers.now a.i) refl
