-- `reader::read_within` meets its contract: what the walk made goes to the loop test, or is the refusal.
-- Assumes nothing.
use mathlib.Core.Path.{ap, ◌∙◌}
use Rattle.std.specs.Prelude.{Result}
use Rattle.answers.specs.declared.Refusal.{Refusal}
use Rattle.answers.proofs.Laws.{handed_on}
use Rattle.tables.specs.declared.Counts.{Counts}
use Rattle.line_readers.specs.Walks.{Going, by_verdict}
use Rattle.reader.specs.Out.{read_outcome}
use Rattle.sheet_acts.specs.Acts.{Progress}
use Rattle.reader.specs.Reading.{by_lines}
use Rattle.reader.proofs.read_within.Goals as goal

pub returns : goal.returns
unfolding by_verdict by_lines
returns c =
    c.hand_out.ensures
    ∙ ap (λ (x : Going Progress). by_lines x c.args.periodics.now c.args.triggers.now) (rw (c.in_ok-walk.was, c.start-reader.ensures) at c.walk.ensures)

pub returns-in_err-walk : goal.returns-in_err-walk
unfolding by_verdict by_lines
returns-in_err-walk c =
    ap (λ (r : Result Counts Refusal). read_outcome r c.args.periodics.now c.args.triggers.now) (handed_on _ _ c.from_residual.ensures.1)
    ∙ ap (λ (x : Going Progress). by_lines x c.args.periodics.now c.args.triggers.now) (rw (c.in_err-walk.was, c.start-reader.ensures) at c.walk.ensures)
