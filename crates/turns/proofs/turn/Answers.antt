-- `turns::turn` meets its contract: its returns are a trigger whose body is not met, and one that acts.
-- Assumes nothing.
use mathlib.Core.Path.{sym, ◌∙◌}
use borrow.Author.Tests.{not-true, not-false}
use Rattle.theory.proofs.Laws.Solving.{turn_unmet, turn_met}
use Rattle.tables.proofs.Laws.{head_byte, priority_byte}
use Rattle.turns.proofs.turn.Goals as goal

pub returns-then-not-met : goal.returns-then-not-met
returns-then-not-met c =
    turn_unmet _ _ (sym c.met.ensures ∙ not-true _ c.if-not-met.true-raw)

pub returns : goal.returns
returns c =
    turn_met _ _ _ _ _ _ (sym c.met.ensures ∙ not-false _ c.if-not-met.false-raw)
    (c.trigger_byte-e.ensures ∙ head_byte _ _) (c.trigger_byte-p.ensures ∙ priority_byte _ _) c.put.ensures
