-- What came of lines, given as an answer beside two tables, as the definitions say it. (The code says it with the tables in its reader: `by_verdict`, line_readers/Walks.)
-- Assumes nothing.
use Rattle.std.specs.Prelude.{List, ℕ, Err, Ok, Result}
use Rattle.sheet_acts.specs.Acts.{Progress, progress}
use Rattle.line_readers.specs.Walks.{Going, goes, refused}
use Rattle.answers.specs.declared.Refusal.{Refusal}
use Rattle.sheet_tests.specs.declared.Seen.{Seen}

-- where it goes on, the tables are what was read into; after a refusal they count for nothing
abbrev pub took : Result Seen Refusal → List ℕ → List ℕ → Going Progress
took (Ok s) p t = goes (progress s p t)
took (Err r) p t = refused r
