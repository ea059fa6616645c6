-- `sheet_acts::seen_after` meets its contract: one field moves for each kind.
-- Assumes nothing.
use native.Mathlib.Omega.{arith}
use borrow.Author.Tests.{eq-eqb, ne_eqb}
use Rattle.sheet_acts.specs.Acts.{seen_after}
use Rattle.sheet_acts.proofs.seen_after.Goals as goal

pub returns-then-k-eq-HEADER : goal.returns-then-k-eq-HEADER
unfolding seen_after
returns-then-k-eq-HEADER c =
    search (eq-eqb)

pub overflow_add-counts : goal.overflow_add-counts
overflow_add-counts c =
    let g = c.requires.1.0 c.if-k-eq-PERIODIC.true in omega arith

pub returns-then-k-eq-PERIODIC : goal.returns-then-k-eq-PERIODIC
unfolding seen_after
returns-then-k-eq-PERIODIC c =
    search (eq-eqb, ne_eqb)

pub overflow_add-counts-then-k-eq-TRIGGER : goal.overflow_add-counts-then-k-eq-TRIGGER
overflow_add-counts-then-k-eq-TRIGGER c =
    let g = c.requires.1.1 c.if-k-eq-TRIGGER.true in omega arith

pub returns-then-k-eq-TRIGGER : goal.returns-then-k-eq-TRIGGER
unfolding seen_after
returns-then-k-eq-TRIGGER c =
    search (eq-eqb, ne_eqb)

pub returns : goal.returns
unfolding seen_after
returns c =
    search (ne_eqb)
