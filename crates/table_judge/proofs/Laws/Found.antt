-- Laws of the loop's verdict: what the loop test finds, as a verdict, is what the judge says.
-- Assumes nothing.
use Rattle.std.specs.Prelude.{◌≡◌, true, false, ℕ, ◌/◌, ◌%◌, ltb}
use Rattle.std.proofs.Common.{ap, ⊎_elim, arith}
use Rattle.theory.specs.Numbers.{EVENTS}
use Rattle.theory.specs.Sheet.{Sheet}
use Rattle.theory.specs.Graph.{pair_place}
use Rattle.theory.specs.LoopTest.{PAIRS, loop_place}
use Rattle.theory.proofs.Laws.Tests.{test}
use Rattle.answers.specs.declared.Name.TheVariants.{Loop}
use Rattle.answers.specs.Answers.{refuse, pass}
use Rattle.loops.specs.Tested.{found_at}
use Rattle.table_judge.specs.Judge.{judge_loop}
use Rattle.table_judge.specs.Judged.{loop_verdict}

-- a place below the number of pairs is LOOP there
pub found_place : (k : ℕ) → ltb k PAIRS ≡ true → loop_verdict (found_at k) ≡ refuse Loop k
unfolding found_at
found_place k h = let e : pair_place (k / EVENTS) (k % EVENTS) ≡ k = omega arith in rw h (ap (refuse Loop) e)

-- the number of pairs is a pass
pub found_none : (k : ℕ) → ltb k PAIRS ≡ false → loop_verdict (found_at k) ≡ pass
unfolding found_at
found_none k h = rw h

-- so the verdict on what is found is the verdict on the sheet
pub loop_verdict_is : (sh : Sheet) → loop_verdict (found_at (loop_place sh)) ≡ judge_loop sh
unfolding judge_loop
loop_verdict_is sh =
    let k : ℕ = loop_place sh in
    ⊎_elim
    (λ (h : ltb k PAIRS ≡ true). rw h (found_place k h))
    (λ (h : ltb k PAIRS ≡ false). rw h (found_none k h))
    (test (ltb k PAIRS))
