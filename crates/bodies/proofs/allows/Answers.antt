-- `bodies::allows` meets its contract: every condition below their count holds.
-- Assumes nothing.
use mathlib.Core.Path.{refl, ◌∙◌}
use borrow.Author.Tests.{tests}
use Rattle.std.proofs.lemmas.Iterator.{YieldsList-from_range}
use Rattle.std.proofs.lemmas.Iterator.Search.{all_from_yields_List}
use Rattle.theory.specs.Events.{holds}
use Rattle.theory.specs.Instant.{allows}
use Rattle.theory.proofs.Laws.Ranges.{all_in_range}
use Rattle.tables.specs.Layout.{trigger_at}
use Rattle.tables.specs.Buffers.{roles_of}
use Rattle.tables.proofs.Laws.{condition_count_byte}
use native.Mathlib.Omega.{arith}
use borrow.Author.Rules.{rules}
use Rattle.bodies.proofs.allows.Goals as goal

pub returns : goal.returns
unfolding allows
returns c =
    let a = c.args in
    let n = c.trigger_byte-n in
    let same = n.ensures ∙ condition_count_byte a.triggers.now a.i in
    let asked = YieldsList-from_range 0 n.result n.result refl (omega arith) in
    rw (← same) (all_from_yields_List (λ j. holds (roles_of a.roles) ((trigger_at a.triggers.now a.i).condition j)) _ _ _ c.all.ensures.ran asked (λ x b q k. search (rules, tests))
    ∙ all_in_range _ _)
