-- The judge of lent tables, which are not trusted: TOO MANY rows; FIELD, the role count first and then the rows; LOOP (document 01, 'What comes back').
-- Assumes nothing.
use Rattle.std.specs.Prelude.{cond, ltb}
use Rattle.theory.specs.Sheet.{Sheet}
use Rattle.theory.specs.LoopTest.{PAIRS, loop_place}
use Rattle.answers.specs.declared.Name.TheVariants.{Loop}
use Rattle.answers.specs.Answers.{refuse, and_then, Verdict, pass}
use Rattle.row_judge.specs.Judge.{judge_rows}

-- LOOP at its place
unfoldable pub judge_loop : Sheet → Verdict
judge_loop sh = cond (ltb (loop_place sh) PAIRS) (refuse Loop (loop_place sh)) pass

-- THE JUDGE of the tables
unfoldable pub judge_tables : Sheet → Verdict
judge_tables sh = and_then (judge_rows sh) (judge_loop sh)
