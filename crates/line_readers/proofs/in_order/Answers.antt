-- `line_readers::in_order` meets its contract: the tests of the code are those of the definition, in the same order.
-- Assumes nothing.
use borrow.Author.Tests.{not-true, not-false}
use Rattle.line_readers.specs.Order.{in_order}
use Rattle.line_readers.proofs.in_order.Goals as goal

pub returns-then-not-tests : goal.returns-then-not-tests
unfolding in_order
returns-then-not-tests c =
    let t = c.args.tests in
    rw (not-true t.framed c.if-not-tests.true) c.refuse.ensures

pub returns-then-not-tests-2 : goal.returns-then-not-tests-2
unfolding in_order
returns-then-not-tests-2 c =
    let t = c.args.tests in
    rw (not-false t.framed c.if-not-tests.false, not-true t.checked c.if-not-tests-2.true) c.refuse-then-not-tests-2.ensures

pub returns-then-not-tests-3 : goal.returns-then-not-tests-3
unfolding in_order
returns-then-not-tests-3 c =
    let t = c.args.tests in
    rw (not-false t.framed c.if-not-tests.false, not-false t.checked c.if-not-tests-2.false, not-true t.kind c.if-not-tests-3.true) c.refuse-then-not-tests-3.ensures

pub returns-then-not-tests-4 : goal.returns-then-not-tests-4
unfolding in_order
returns-then-not-tests-4 c =
    let t = c.args.tests in
    rw (not-false t.framed c.if-not-tests.false, not-false t.checked c.if-not-tests-2.false, not-false t.kind c.if-not-tests-3.false, not-true t.room c.if-not-tests-4.true) c.refuse-then-not-tests-4.ensures

pub returns-then-not-tests-5 : goal.returns-then-not-tests-5
unfolding in_order
returns-then-not-tests-5 c =
    let t = c.args.tests in
    rw (not-false t.framed c.if-not-tests.false, not-false t.checked c.if-not-tests-2.false, not-false t.kind c.if-not-tests-3.false, not-false t.room c.if-not-tests-4.false, not-true t.field c.if-not-tests-5.true) c.refuse-then-not-tests-5.ensures

pub returns-then-not-tests-6 : goal.returns-then-not-tests-6
unfolding in_order
returns-then-not-tests-6 c =
    let t = c.args.tests in
    rw (not-false t.framed c.if-not-tests.false, not-false t.checked c.if-not-tests-2.false, not-false t.kind c.if-not-tests-3.false, not-false t.room c.if-not-tests-4.false, not-false t.field c.if-not-tests-5.false, not-true t.last c.if-not-tests-6.true) c.refuse-then-not-tests-6.ensures

pub returns : goal.returns
unfolding in_order
returns c =
    let t = c.args.tests in
    rw (not-false t.framed c.if-not-tests.false, not-false t.checked c.if-not-tests-2.false, not-false t.kind c.if-not-tests-3.false, not-false t.room c.if-not-tests-4.false, not-false t.field c.if-not-tests-5.false, not-false t.last c.if-not-tests-6.false)
