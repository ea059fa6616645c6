-- `tape_tests::of_tape` meets its contract: the calls are the definition's parts.
-- Assumes nothing.
use mathlib.Core.Path.{◌≡◌, refl, ap, ◌∙◌}
use Rattle.std.specs.Prelude.{not, is_none}
use Rattle.std.proofs.Math.Bool.{not-not}
use Rattle.tape_tests.specs.Tests.{tape_size, of_tape}
use Rattle.tape_tests.proofs.of_tape.Goals as goal

pub returns : goal.returns
unfolding of_tape tape_size
returns c =
    let ends : is_none c.args.s.end ≡ c.is_none.result = ap not c.is_none.ensures ∙ not-not c.is_none.result in
    rw (c.count.ensures, c.size_of.ensures, ends) refl
