-- `reader::hand_out` meets its contract: the loop test's verdict decides, and only what passed is copied out.
-- Assumes nothing.
use mathlib.Core.Path.{ap, ◌∙◌}
use Rattle.std.specs.Prelude.{Result}
use Rattle.answers.specs.declared.Refusal.{Refusal}
use Rattle.answers.proofs.Laws.{handed_on}
use Rattle.tables.specs.declared.Counts.{Counts}
use Rattle.reader.specs.Out.{read_outcome}
use Rattle.reader.proofs.Laws.Out.{passed_out, refused_out}
use Rattle.reader.proofs.hand_out.Goals as goal

pub returns : goal.returns
returns c =
    passed_out _ _ _ _ _ _ c.loop_judged-judged.ensures c.in_ok-judged.was

pub returns-in_err-judged : goal.returns-in_err-judged
returns-in_err-judged c =
    ap (λ (r : Result Counts Refusal). read_outcome r c.args.periodics.now c.args.triggers.now) (handed_on _ _ c.from_residual.ensures.1)
    ∙ refused_out _ _ _ _ _ _ c.loop_judged-judged.ensures _ c.in_err-judged.was
