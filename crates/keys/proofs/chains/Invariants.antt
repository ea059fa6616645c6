-- `keys::chains` meets its contract. The loop's invariant: the triggers from i on are chained.
-- Assumes nothing.
use mathlib.Core.Path.{◌≡◌}
use lib.ListN.{length}
use Rattle.keys.specs.Keys.{PLACES, key_in, Chained}
use Rattle.keys.proofs.chains.Given as goal

abbrev pub invariant-loop-i : goal.invariant-loop-i
invariant-loop-i l =
    (length l.r ≡ PLACES) × Chained (key_in l.triggers l.levels l.roles l.n) l.n l.i l.r
