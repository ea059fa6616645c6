-- `tape_frames::asked_in` meets its contract: three bytes of the frame.
-- Assumes nothing.
use mathlib.Core.Path.{refl}
use Rattle.tape_frames.proofs.asked_in.Goals as goal

pub returns : goal.returns
returns c =
    rw (c.byte_at-3.ensures, c.byte_at-2.ensures, c.byte_at.ensures) refl
