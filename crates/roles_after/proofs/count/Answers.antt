-- `roles_after::count` meets its contract: of the events, those that pass are counted.
-- Assumes nothing.
use mathlib.Core.Path.{◌≡◌, refl, ◌∙◌}
use Rattle.std.specs.List.{range_with_len}
use Rattle.std.proofs.lemmas.Iterator.{YieldsList-from_range}
use Rattle.std.proofs.lemmas.Iterator.Consumers.{YieldsList-at, YieldsList-from_filter, count_from_yields_List}
use Rattle.std.proofs.lemmas.List.Sums.{length-filter}
use Rattle.theory.specs.Numbers.{EVENTS}
use Rattle.theory.specs.Below.{count_below}
use Rattle.theory.specs.Events.{nonblocked}
use Rattle.theory.proofs.Laws.Ranges.{count_in_range}
use Rattle.tables.specs.Buffers.{events_of}
use borrow.Author.Rules.{rules}
use borrow.Author.Tests.{tests}
use native.Mathlib.Omega.{arith}
use Rattle.roles_after.proofs.count.Goals as goal

counted : (c : goal.After-count-n) → c.count-n.result ≡ count_below EVENTS (nonblocked (events_of c.args.events.now) (events_of c.args.events.now))
counted c =
    let S = events_of c.args.events.now in
    let asked = YieldsList-from_range 0 EVENTS EVENTS refl (omega arith) in
    count_from_yields_List c.filter.result c.count-n.result c.count-n.ensures.ran (YieldsList-from_filter _ (nonblocked S S) (YieldsList-at c.filter.ensures.source asked) c.filter.ensures.closure (λ x r q k. search (rules, tests)))
    ∙ (length-filter (nonblocked S S) (range_with_len 0 EVENTS) ∙ count_in_range EVENTS (nonblocked S S))

pub returns : goal.returns
returns c =
    counted c
