-- `tape_tests::in_time` meets its contract: the end has a limit more.
-- Assumes nothing.
use Rattle.std.specs.Prelude.{Some}
use Rattle.tape_frames.specs.declared.Kind.TheVariants.{Ask}
use mathlib.Core.Path.{◌≡◌, refl, sym, ap, ◌∙◌}
use Rattle.tape_frames.specs.Laws.Kinds.{ends, ends_said}
use Rattle.tape_tests.proofs.in_time.Goals.{in_default-via-in_default, in_default-via-in-Some+in_default}
use Rattle.tape_tests.specs.Tests.{in_time}
use Rattle.tape_tests.proofs.in_time.Goals as goal

pub returns-in-Some-End : goal.returns-in-Some-End
unfolding in_time ends
returns-in-Some-End c =
    rw (sym (ends_said _) ∙ ap ends (sym c.kind_of.ensures ∙ c.in-Some-End.is ∙ ap Some c.in-Some-End.field-0-is), ← c.requires) refl

pub returns-in_default : goal.returns-in_default
unfolding in_time ends
returns-in_default c =
    elim c.in_default.branch [
      | in_default-via-in-Some+in_default w ↦
          let e : w.in_default.field-0 ≡ Ask = search w.in_default in
          rw (sym (ends_said _) ∙ ap ends (sym c.kind_of.ensures ∙ w.in_default.is ∙ ap Some e), ← c.requires) refl
      | in_default-via-in_default w ↦ rw (sym (ends_said _) ∙ ap ends (sym c.kind_of.ensures ∙ w.in_default.is), ← c.requires) refl
    ]
