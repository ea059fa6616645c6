-- `tape_tests::ask_fits` meets its contract: only a request is asked about.
-- Assumes nothing.
use Rattle.std.specs.Prelude.{Some}
use Rattle.tape_frames.specs.declared.Kind.TheVariants.{End}
use mathlib.Core.Path.{◌≡◌, refl, sym, ap, ◌∙◌}
use Rattle.tape_frames.specs.Laws.Kinds.{asks, asks_said}
use Rattle.tables.specs.Asked as lent
use Rattle.requests.specs.Requests.{fits}
use Rattle.tape_tests.specs.Tests.{ask_fits}
use Rattle.tape_tests.proofs.ask_fits.Goals as goal

pub returns-in-Some-Ask : goal.returns-in-Some-Ask
unfolding ask_fits asks
returns-in-Some-Ask c =
    rw (sym (asks_said _) ∙ ap asks (sym c.kind_of.ensures ∙ c.in-Some-Ask.is ∙ ap Some c.in-Some-Ask.field-0-is))
    (c.request_fits.ensures ∙ ap (λ (r : lent.Request). fits c.args.roles r) c.asked_in.ensures)

pub returns-in_default : goal.returns-in_default
unfolding ask_fits asks
returns-in_default c =
    let e : c.in_default.field-0 ≡ End = search c.in_default in
    rw (sym (asks_said _) ∙ ap asks (sym c.kind_of.ensures ∙ c.in_default.is ∙ ap Some e)) refl

pub returns-in_default-2 : goal.returns-in_default-2
unfolding ask_fits asks
returns-in_default-2 c =
    rw (sym (asks_said _) ∙ ap asks (sym c.kind_of.ensures ∙ c.in_default.is)) refl
