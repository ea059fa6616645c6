-- `trigger_limits::trigger_fits` meets its contract: all tests pass where the first that fails is past the last.
-- Assumes nothing.
use mathlib.Core.Path.{◌≡◌, sym, ◌∙◌}
use Prim.Native.Nat.{◌+◌}
use native.Mathlib.Omega.{arith}
use lib.Dec.{eqb}
use lib.ListN.{length}
use Rattle.theory.specs.Sheet.{Trigger, trigger_tests, trigger_fits}
use Rattle.theory.proofs.Laws.All.{all_first}
use Rattle.theory.proofs.Laws.FirstBad.{fields_of}
use Rattle.tables.specs.Layout.{trigger_at}
use Rattle.tables.proofs.Laws.{event_count_byte, condition_count_byte}
use Rattle.trigger_limits.proofs.trigger_fits.Goals as goal

pub returns : goal.returns
unfolding trigger_fits
returns c =
    let a = c.args in
    let g : Trigger = trigger_at a.table.now a.i in
    let first = c.index.ensures ∙ c.first_bad_trigger.ensures in
    let count : 5 + c.index-n.result + c.index-m.result ≡ length (trigger_tests a.roles g) =
    omega (arith, c.index-n.ensures, c.trigger_byte.ensures, event_count_byte a.table.now a.i, c.index-m.ensures, c.trigger_byte-2.ensures, condition_count_byte a.table.now a.i, fields_of a.roles g) in
    (λ i. eqb (first i) (count i)) ∙ sym (all_first (trigger_tests a.roles g))
