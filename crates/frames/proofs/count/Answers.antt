-- `frames::count` meets its contract: two characters a byte.
-- Assumes nothing.
use mathlib.Core.Path.{sym}
use Rattle.frames.specs.Laws.Frame.{length_bytes}
use Rattle.frames.proofs.count.Goals as goal

pub returns : goal.returns
returns c =
    sym (length_bytes c.args.line.now)
