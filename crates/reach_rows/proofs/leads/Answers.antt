-- `reach_rows::leads` meets its contract: the row of a is read, and what is no event has none.
-- Assumes nothing.
use mathlib.Core.Path.{refl}
use borrow.Author.Tests.{lt-ltb, le-ltb}
use Rattle.theory.specs.Numbers.{EVENTS}
use Rattle.reach_rows.specs.Rows.{edges_of}
use Rattle.reach_rows.proofs.leads.Goals as goal

pub returns-then-i-ge-PLACES : goal.returns-then-i-ge-PLACES
unfolding edges_of
returns-then-i-ge-PLACES c =
    rw (← c.index-i.ensures, le-ltb _ EVENTS c.if-i-ge-PLACES.true) refl

pub returns : goal.returns
unfolding edges_of
returns c =
    rw (← c.index-i.ensures, lt-ltb _ EVENTS c.if-i-ge-PLACES.false) c.reaches.ensures
