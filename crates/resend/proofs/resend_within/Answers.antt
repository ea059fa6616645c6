-- `resend::resend_within` meets its contract: the code's own reading is that of the input's sheet, and what was read is written.
-- Assumes nothing.
use mathlib.Core.Path.{refl}
use Rattle.answers.proofs.Laws.{handed_on}
use Rattle.resend.specs.Laws.{was_read, was_refused, never_refused}
use Rattle.resend.proofs.resend_within.Goals as goal

pub returns : goal.returns
returns c =
    was_read c.args.input.now _ _ refl refl _ c.split-parts.ensures.0 c.split-parts.ensures.1.0 _ _ _ c.read_sheet.ensures _ c.in_ok-counts.was _ _ _ c.write_sheet.ensures _ c.in_ok-length.was

pub returns-in_err-counts : goal.returns-in_err-counts
returns-in_err-counts c =
    was_refused c.args.input.now _ _ refl refl _ c.split-parts.ensures.0 c.split-parts.ensures.1.0 _ _ _ c.read_sheet.ensures _ c.in_err-counts.was _ _ _ (handed_on _ _ c.from_residual.ensures.1) refl

pub returns-in_err-length : goal.returns-in_err-length
returns-in_err-length c =
    never_refused c.args.input.now _ _ refl refl _ c.split-parts.ensures.0 c.split-parts.ensures.1.0 _ _ _ c.read_sheet.ensures _ c.in_ok-counts.was _ c.requires.1 _ _ c.write_sheet.ensures _ c.in_err-length.was
