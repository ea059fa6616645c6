-- `bodies::met` meets its contract: every body event below their count has a nonblocked member.
-- Assumes nothing.
use mathlib.Core.Path.{refl, ◌∙◌}
use borrow.Author.Tests.{tests}
use Rattle.std.proofs.lemmas.Iterator.{YieldsList-from_range}
use Rattle.std.proofs.lemmas.Iterator.Search.{all_from_yields_List}
use Rattle.theory.specs.Events.{nonblocked}
use Rattle.theory.specs.Instant.{met}
use Rattle.theory.proofs.Laws.Ranges.{all_in_range}
use Rattle.tables.specs.Layout.{trigger_at}
use Rattle.tables.specs.Buffers.{events_of}
use Rattle.tables.proofs.Laws.{event_count_byte}
use native.Mathlib.Omega.{arith}
use borrow.Author.Rules.{rules}
use Rattle.bodies.proofs.met.Goals as goal

pub returns : goal.returns
unfolding met
returns c =
    let a = c.args in
    let n = c.trigger_byte-n in
    let same = n.ensures ∙ event_count_byte a.triggers.now a.i in
    let asked = YieldsList-from_range 0 n.result n.result refl (omega arith) in
    rw (← same) (all_from_yields_List (λ j. nonblocked (events_of a.events.now) (events_of a.events.now) ((trigger_at a.triggers.now a.i).event j)) _ _ _ c.all.ensures.ran asked (λ x b q k. search (rules, tests))
    ∙ all_in_range _ _)
