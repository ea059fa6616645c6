-- What the reader answers, as a verdict.
-- Assumes nothing.
use Rattle.std.specs.Prelude.{Result}
use Rattle.answers.specs.Answers as Answers
use Rattle.answers.specs.Answers.{Verdict}
use Rattle.answers.specs.declared.Refusal.{Refusal}
use Rattle.tables.specs.declared.Counts.{Counts}

-- the answer as a verdict, which has document 01's number and place by `answered`
abbrev pub verdict_of : Result Counts Refusal → Verdict
verdict_of = Answers.verdict_of
