-- `tape::heard_after` meets its contract: a request, or else the end.
-- Assumes nothing.
use mathlib.Core.Path.{◌≡◌, sym, ap, ◌∙◌}
use borrow.Author.Tests.{eqb-true}
use Rattle.std.specs.Prelude.{Some}
use Rattle.tape_frames.specs.declared.Kind.TheVariants.{End}
use Rattle.tape_frames.specs.Laws.Kinds.{asks, asks_said}
use Rattle.tape.specs.Tape.{heard_after}
use Rattle.tape.specs.Laws.Line.{room_says}
use Rattle.tape.proofs.heard_after.Goals as goal

pub one_more-requires : goal.one_more-requires
unfolding asks
one_more-requires c =
    λ e. room_says _ _ c.requires.1 (eqb-true _ _ (sym (asks_said _) ∙ ap asks (sym c.kind_of.ensures ∙ c.in-Some-Ask.is ∙ ap Some c.in-Some-Ask.field-0-is))) (sym c.instant_of-t.ensures ∙ e)

pub returns-in-Some-Ask : goal.returns-in-Some-Ask
unfolding heard_after asks
returns-in-Some-Ask c =
    rw (sym (asks_said _) ∙ ap asks (sym c.kind_of.ensures ∙ c.in-Some-Ask.is ∙ ap Some c.in-Some-Ask.field-0-is)) cc

pub returns-in_default : goal.returns-in_default
unfolding heard_after asks
returns-in_default c =
    let e : c.in_default.field-0 ≡ End = search c.in_default in
    rw (sym (asks_said _) ∙ ap asks (sym c.kind_of.ensures ∙ c.in_default.is ∙ ap Some e)) cc

pub returns-in_default-2 : goal.returns-in_default-2
unfolding heard_after asks
returns-in_default-2 c =
    rw (sym (asks_said _) ∙ ap asks (sym c.kind_of.ensures ∙ c.in_default.is)) cc
