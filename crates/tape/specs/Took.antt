-- What the code hands back of a tape, as the definitions say it.
-- Assumes nothing.
use Rattle.line_readers.specs.Walks.{Going, goes, refused}
use Rattle.tape_tests.specs.declared.Heard.{Heard}
use Rattle.std.specs.Prelude.{Err, Ok, Result}
use Rattle.answers.specs.declared.Refusal.{Refusal}

abbrev pub took : Result Heard Refusal → Going Heard
took (Ok s) = goes s
took (Err r) = refused r
