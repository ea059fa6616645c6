-- `tape::TapeReader::take` meets its contract: the verdict decides, and what passed had room.
-- Assumes nothing.
use mathlib.Core.Path.{sym, ap, ◌∙◌}
use Rattle.answers.specs.Answers.{Verdict}
use Rattle.answers.proofs.Laws.{handed_on}
use Rattle.line_readers.specs.Walks.{goes, by_verdict}
use Rattle.tape.specs.Tape.{tape_step}
use Rattle.tape.specs.Laws.Line.{passes}
use Rattle.tape.proofs.TapeReaderLineReader.take.Goals as goal

pub heard_after-self-requires : goal.heard_after-self-requires
heard_after-self-requires c =
    (c.requires, (passes _ _ _ _ (sym c.tape_judged.ensures ∙ c.in_ok-tape_judged.was)).room)

pub returns-clause-taken : goal.returns-clause-taken
unfolding by_verdict tape_step
returns-clause-taken c =
    rw (sym c.tape_judged.ensures ∙ c.in_ok-tape_judged.was) (ap goes c.heard_after-self.ensures)

pub returns-in_err-tape_judged-clause-taken : goal.returns-in_err-tape_judged-clause-taken
unfolding by_verdict tape_step
returns-in_err-tape_judged-clause-taken c =
    rw (sym c.tape_judged.ensures ∙ c.in_err-tape_judged.was) (ap (λ (v : Verdict). by_verdict v c.args.self.now.heard) (handed_on _ _ c.from_residual.ensures.1))
