-- `reader::SheetReader::take` meets its contract: the verdict decides, and what passed had room.
-- Assumes nothing.
use mathlib.Core.Path.{sym, ap, ◌∙◌}
use Rattle.std.proofs.Common.{rules}
use Rattle.sheet_tests.specs.Laws.{passes}
use Rattle.answers.specs.Answers.{Verdict}
use Rattle.answers.proofs.Laws.{handed_on}
use Rattle.line_readers.specs.Walks.{goes, by_verdict}
use Rattle.sheet_acts.specs.Acts.{progress}
use Rattle.reader.specs.Line.{line_step}
use Rattle.reader.proofs.SheetReaderLineReader.take.Goals as goal

pub act-self-requires : goal.act-self-requires
act-self-requires c =
    ((c.requires, (passes _ _ _ (sym c.line_judged.ensures ∙ c.in_ok-line_judged.was)).room), (search rules, search rules))

pub returns-clause-taken : goal.returns-clause-taken
unfolding by_verdict line_step
returns-clause-taken c =
    rw (sym c.line_judged.ensures ∙ c.in_ok-line_judged.was) (ap goes c.act-self.ensures)

pub returns-in_err-line_judged-clause-taken : goal.returns-in_err-line_judged-clause-taken
unfolding by_verdict line_step
returns-in_err-line_judged-clause-taken c =
    rw (sym c.line_judged.ensures ∙ c.in_err-line_judged.was) (ap (λ (v : Verdict). by_verdict v (progress c.args.self.now.seen c.args.self.now.periodics c.args.self.now.triggers)) (handed_on _ _ c.from_residual.ensures.1))
