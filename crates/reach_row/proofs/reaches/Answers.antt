-- `reach_row::reaches` meets its contract: an event's truth value is read at its number, and a number from 128 on is no event.
-- Assumes nothing.
use mathlib.Core.Path.{refl}
use borrow.Author.Tests.{lt-ltb, le-ltb}
use Rattle.theory.specs.Numbers.{EVENTS}
use Rattle.reach_row.specs.Row.{reaches}
use Rattle.reach_row.proofs.reaches.Goals as goal

pub returns-then-b-lt-EVENTS : goal.returns-then-b-lt-EVENTS
unfolding reaches
returns-then-b-lt-EVENTS c =
    rw (lt-ltb _ EVENTS c.if-b-lt-EVENTS.true, c.index.ensures) refl

pub returns-else-b-lt-EVENTS : goal.returns-else-b-lt-EVENTS
unfolding reaches
returns-else-b-lt-EVENTS c =
    rw (le-ltb _ EVENTS c.if-b-lt-EVENTS.false) refl
