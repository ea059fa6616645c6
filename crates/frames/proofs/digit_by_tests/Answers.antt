-- `frames::digit_by_tests` meets its contract: its tests give the definition's values, at each of the 256 characters.
-- Assumes nothing.
use borrow.Author.Tests.{leb-true}
use Rattle.theory.proofs.Laws.Tests.{and_left}
use Rattle.frames.specs.Laws.Frame.{value_by_tests}
use borrow.Author.Rules.{rules}
use native.Mathlib.Omega.{arith}
use Rattle.frames.proofs.digit_by_tests.Goals as goal

pub overflow_sub-result : goal.overflow_sub-result
overflow_sub-result c =
    leb-true 48 c.args.c (and_left _ _ c.if-c.true)

pub returns-then-c : goal.returns-then-c
returns-then-c c =
    rw c.if-c.true at (value_by_tests c.args.c (search rules))

pub overflow_sub-result-then-c-2 : goal.overflow_sub-result-then-c-2
overflow_sub-result-then-c-2 c =
    let g = leb-true 65 c.args.c (and_left _ _ c.if-c-2.true) in omega arith

pub returns-then-c-2 : goal.returns-then-c-2
returns-then-c-2 c =
    rw (c.if-c.false, c.if-c-2.true) at (value_by_tests c.args.c (search rules))

pub returns : goal.returns
returns c =
    rw (c.if-c.false, c.if-c-2.false) at (value_by_tests c.args.c (search rules))
