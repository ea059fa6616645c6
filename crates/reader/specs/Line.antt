-- One line: its tests, and what it does to what was read so far.
-- Assumes nothing.
use Rattle.std.specs.Prelude.{List, ℕ, ◌+◌}
use Rattle.frames.specs.Frame.{bytes_of}
use Rattle.sheet_tests.specs.Judge.{judge_line}
use Rattle.line_readers.specs.Walks.{Going, by_verdict}
use Rattle.sheet_acts.specs.Acts.{Progress, after}

-- THE LINE: its tests, at the line after those that were read, and what it does
unfoldable pub line_step : Progress → List ℕ → Going Progress
line_step s l = by_verdict (judge_line (s.seen.line + 1) s.seen l) (after s (bytes_of l))
