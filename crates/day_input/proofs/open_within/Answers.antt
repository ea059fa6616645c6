-- `day_input::open_within` meets its contract: the sheet is read, and then the tape, or it is the refusal.
-- Assumes nothing.
use mathlib.Core.Path.{ap, ◌∙◌}
use Rattle.std.specs.Prelude.{Result}
use Rattle.answers.specs.declared.Refusal.{Refusal}
use Rattle.answers.proofs.Laws.{handed_on}
use Rattle.day_input.specs.declared.Plan.{Plan}
use Rattle.day_input.specs.Planned.{opened}
use Rattle.day_input.proofs.Laws.{sheet_goes, sheet_stops}
use Rattle.day_input.proofs.open_within.Goals as goal

pub returns : goal.returns
returns c =
    sheet_goes _ _ _ c.requires.1 _ c.split-p.ensures.0 _ _ _ c.read_sheet.ensures _ _ c.in_ok-counts.was c.open_tape.ensures

pub returns-in_err-counts : goal.returns-in_err-counts
returns-in_err-counts c =
    ap (λ (r : Result Plan Refusal). opened r c.read_sheet.new.periodics c.read_sheet.new.triggers) (handed_on _ _ c.from_residual.ensures.1)
    ∙ sheet_stops _ _ _ c.requires.1 _ c.split-p.ensures.0 _ _ _ c.read_sheet.ensures _ c.in_err-counts.was
