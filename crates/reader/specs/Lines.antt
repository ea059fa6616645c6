-- The lines in order.
-- Assumes nothing.
use Rattle.std.specs.Prelude.{◌+◌}
use Rattle.answers.specs.declared.Name.TheVariants.{Kind}
use Rattle.answers.specs.Answers.{refusal}
use Rattle.text.specs.Lines.{Lines}
use Rattle.line_readers.specs.Walks.{Going, goes, refused, Reader, walks}
use Rattle.kinds.specs.declared.Stage.{Stage}
use Rattle.kinds.specs.declared.Stage.TheVariants.{Start, Rows, Ended}
use Rattle.sheet_tests.specs.declared.Seen.{Seen}
use Rattle.sheet_acts.specs.Acts.{Progress}
use Rattle.reader.specs.Line.{line_step}

-- after the last line: the end frame was there, else KIND at the line after it
unfoldable pub at_end : Stage → Progress → Going Progress
at_end Start s = refused (refusal Kind (s.seen.line + 1))
at_end Rows s = refused (refusal Kind (s.seen.line + 1))
at_end Ended s = goes s

-- the reader of a sheet
abbrev pub sheet_reader : Reader Progress
sheet_reader = record { read = λ s. s.seen.line; takes = line_step; ends = λ s. at_end s.seen.stage s }

-- what comes of a sheet's lines from here on
abbrev pub reads : Going Progress → Lines → Going Progress
reads = walks sheet_reader

-- before the first line
abbrev pub fresh : Seen
fresh = record { line = 0; stage = Start; counts = record { roles = 0; periodics = 0; triggers = 0 } }
