-- `writer::judge_writing` meets its contract: LENGTH first, then the judge of the tables.
-- Assumes nothing.
use mathlib.Core.Path.{sym, ap, ◌∙◌}
use Rattle.table_judge.specs.declared.Judged.{Judged}
use Rattle.table_judge.specs.Judged.{judged}
use Rattle.writer.specs.Outcome.{judge_writing}
use Rattle.writer.proofs.judge_writing.Goals as goal

pub returns-then-write_lengths_fit : goal.returns-then-write_lengths_fit
unfolding judge_writing judged
returns-then-write_lengths_fit c =
    rw (sym c.write_lengths_fit.ensures ∙ c.if-write_lengths_fit.true) (ap (λ (j : Judged). j.verdict) c.judge-judged.ensures)

pub returns : goal.returns
unfolding judge_writing
returns c =
    rw (sym c.write_lengths_fit.ensures ∙ c.if-write_lengths_fit.false) c.refuse.ensures
