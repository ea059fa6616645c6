-- What was read so far, as the frames say it: the lines that were read and where the reader stands, the header's role count, the rows that were counted, and both tables.
-- Assumes nothing.
use Rattle.std.specs.Prelude.{cond, List, [], ◌∷◌, ℕ, eqb, length}
use Rattle.kinds.specs.declared.Stage.{Stage}
use Rattle.kinds.specs.declared.Stage.TheVariants.{Start, Rows, Ended}
use Rattle.kinds.specs.Kinds.{END}
use Rattle.sheet_acts.specs.Acts.{Progress, progress}
use Rattle.line_by_line.specs.Tests.{how_many}
use Rattle.line_by_line.specs.ComesBack.{periodic_table, trigger_table, counts_of}

-- where the reader stands: before the header, after it, or after an end
abbrev pub stage_after : List (List ℕ) → Stage
stage_after [] = Start
stage_after (f ∷ fs) = cond (eqb (how_many END (f ∷ fs)) 0) Rows Ended

-- all that was read of these frames
abbrev pub said : List (List ℕ) → Progress
said fs = progress (record { line = length fs; stage = stage_after fs; counts = counts_of fs }) (periodic_table fs) (trigger_table fs)
