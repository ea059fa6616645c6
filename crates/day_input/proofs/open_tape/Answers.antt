-- `day_input::open_tape` meets its contract: what came of the tape decides.
-- Assumes nothing.
use mathlib.Core.Path.{◌∙◌}
use Rattle.answers.proofs.Laws.{handed_on}
use Rattle.day_input.proofs.Laws.{tape_goes, tape_stops}
use Rattle.day_input.proofs.open_tape.Goals as goal

pub returns : goal.returns
returns c =
    rw c.unwrap_or.ensures (tape_goes _ _ _ _ _ c.read_tape.ensures _ c.in_ok-s.was)

pub returns-in_err-s : goal.returns-in_err-s
returns-in_err-s c =
    handed_on _ _ c.from_residual.ensures.1 ∙ tape_stops _ _ _ _ _ c.read_tape.ensures _ c.in_err-s.was
