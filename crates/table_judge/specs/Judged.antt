-- What the judge of lent tables hands back: the verdict, and the levels of the loop test, which is asked where the rows pass. Below: the parts of it that the code works out.
-- Assumes nothing.
use Rattle.std.specs.Prelude.{List, ℕ, replicate, Err, Ok, None, Option, Some}
use Rattle.theory.specs.Numbers.{EVENTS}
use Rattle.theory.specs.Sheet.{Sheet}
use Rattle.theory.specs.Graph.{pair_place}
use Rattle.theory.specs.LoopTest.{level_of}
use Rattle.answers.specs.declared.Name.TheVariants.{Loop}
use Rattle.answers.specs.Answers.{refuse, Verdict, pass}
use Rattle.loops.specs.Tested.{tabulate}
use Rattle.row_judge.specs.Judge.{judge_rows}
use Rattle.table_judge.specs.Judge.{judge_loop, judge_tables}
use Rattle.table_judge.specs.declared.Judged.{Judged}

-- the levels by the verdict on the rows: zeros where these are refused
unfoldable pub levels_after : Verdict → Sheet → List ℕ
levels_after (Ok tt) sh = tabulate EVENTS (level_of sh)
levels_after (Err r) sh = replicate EVENTS 0

-- THE WHOLE ANSWER
unfoldable pub judged : Sheet → Judged
judged sh = record { verdict = judge_tables sh; levels = levels_after (judge_rows sh) sh }

-- ---- its parts

-- what the loop test found, as a verdict: LOOP at 128 × from + to
abbrev pub loop_verdict : Option (ℕ × ℕ) → Verdict
loop_verdict (Some (from, to)) = refuse Loop (pair_place from to)
loop_verdict None = pass

-- the answer where the rows pass
unfoldable pub loop_judged : Sheet → Judged
loop_judged sh = record { verdict = judge_loop sh; levels = tabulate EVENTS (level_of sh) }
