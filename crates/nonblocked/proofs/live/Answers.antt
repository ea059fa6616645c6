-- `nonblocked::live` meets its contract: the masks are those of the event and of the conflicting event.
-- Assumes nothing.
use mathlib.Core.Path.{sym}
use Rattle.masks.specs.Laws.Live.{live_is, live_none}
use Rattle.nonblocked.proofs.live.Goals as goal

pub returns-then-e-lt-EVENTS : goal.returns-then-e-lt-EVENTS
returns-then-e-lt-EVENTS c =
    let a = c.args in
    rw (live_is a.events.now a.e c.if-e-lt-EVENTS.true) cc

pub returns : goal.returns
returns c =
    let a = c.args in sym (live_none a.events.now a.e c.if-e-lt-EVENTS.false)
