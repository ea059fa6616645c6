-- `turns::sweep` meets its contract. The loop's invariant: the sweep has come to trigger i.
-- Assumes nothing.
use mathlib.Core.Path.{ap, ◌∙◌}
use Prim.Native.Nat.{ℕ, ◌+◌}
use lib.ListN.{get_or}
use Rattle.keys.specs.Keys.{after_of}
use Rattle.turns.specs.Laws.{sweeping_first, sweeping_next, sweeping_end}
use borrow.Author.Rules.{rules}
use Rattle.turns.proofs.sweep.Goals as goal

pub loop-i-init : goal.loop-i-init
loop-i-init c =
    sweeping_first _ _ _ _ _ _ (c.number-i.ensures ∙ ap (λ (x : ℕ). get_or c.args.chains.now (256 + x) 0) c.row_index.ensures) c.requires.0.1

pub loop-i-preserved : goal.loop-i-preserved
loop-i-preserved c =
    sweeping_next _ _ _ _ _ c.loop-i.i _ _ _ _ _ c.requires.0.0 (search rules) (c.number-i-in-loop-i.ensures ∙ ap (after_of c.args.chains.now) c.row_index-in-loop-i.ensures)
    c.turn-new.ensures c.loop-i.invariant

pub returns : goal.returns
returns c =
    sweeping_end _ _ _ _ _ c.loop-i.i _ _ (search rules) c.loop-i.invariant
