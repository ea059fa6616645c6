-- `tape_tests::size_of` meets its contract: each kind has its byte count, and no kind has 0.
-- Assumes nothing.
use Rattle.std.specs.Prelude.{Some}
use mathlib.Core.Path.{refl, sym, ap, ◌∙◌}
use Rattle.tape_frames.specs.Laws.Kinds.{asks, ends, asks_said, ends_said}
use Rattle.tape_tests.specs.Tests.{tape_size}
use Rattle.tape_tests.proofs.size_of.Goals as goal

pub returns-in-Some-Ask : goal.returns-in-Some-Ask
unfolding tape_size asks
returns-in-Some-Ask c =
    rw (sym (asks_said _) ∙ ap asks (sym c.kind_of.ensures ∙ c.in-Some-Ask.is ∙ ap Some c.in-Some-Ask.field-0-is)) refl

pub returns-in-Some-End : goal.returns-in-Some-End
unfolding tape_size asks ends
returns-in-Some-End c =
    rw (sym (asks_said _) ∙ ap asks (sym c.kind_of.ensures ∙ c.in-Some-End.is ∙ ap Some c.in-Some-End.field-0-is), sym (ends_said _) ∙ ap ends (sym c.kind_of.ensures ∙ c.in-Some-End.is ∙ ap Some c.in-Some-End.field-0-is)) refl

pub returns-in-None : goal.returns-in-None
unfolding tape_size asks ends
returns-in-None c =
    rw (sym (asks_said _) ∙ ap asks (sym c.kind_of.ensures ∙ c.in-None.is), sym (ends_said _) ∙ ap ends (sym c.kind_of.ensures ∙ c.in-None.is)) refl
