-- `cases::digit` meets its contract: its ranges are the definition's tests.
-- Assumes nothing.
use borrow.Author.Tests.{lt-ltb, le-ltb}
use Rattle.cases.specs.Digits.{value_of}
use Rattle.cases.proofs.digit.Goals as goal

pub returns-in-48-to-57 : goal.returns-in-48-to-57
unfolding value_of
returns-in-48-to-57 c =
    search (lt-ltb, le-ltb)

pub returns-in-65-to-70 : goal.returns-in-65-to-70
unfolding value_of
returns-in-65-to-70 c =
    search (lt-ltb, le-ltb)

pub returns-in_default : goal.returns-in_default
unfolding value_of
returns-in_default c =
    search (lt-ltb, le-ltb)

pub returns-in_default-2 : goal.returns-in_default-2
unfolding value_of
returns-in_default-2 c =
    search (lt-ltb, le-ltb)

pub returns-in_default-3 : goal.returns-in_default-3
unfolding value_of
returns-in_default-3 c =
    search (lt-ltb, le-ltb)
