-- `printed_frames::refusal_line` meets its contract: the line of the frame is all of the 23 bytes.
-- Assumes nothing.
use mathlib.Core.Path.{refl, ap, ◌∙◌}
use Prim.Native.Nat.{ℕ}
use Rattle.printed_frames.specs.Frames.{refusal_frame}
use Rattle.printed_frames.specs.Laws.Line.{line_all}
use Rattle.printed_frames.proofs.refusal_line.Goals as goal

pub returns : goal.returns
returns c =
    let r = c.args.r in
    c.put_line.ensures ∙ line_all r _ _ refl (c.refusal_frame-frame.ensures ∙ ap (λ (n : ℕ). refusal_frame n r.place r.column) c.number_of.ensures)
