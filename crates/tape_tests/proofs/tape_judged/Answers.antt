-- `tape_tests::tape_judged` meets its contract: the tests in their order, and a refusal gets its column.
-- Assumes nothing.
use mathlib.Core.Path.{◌≡◌, ap, ◌∙◌}
use borrow.Author.Rules.{rules}
use Rattle.line_readers.specs.Column.{located}
use Rattle.tape_tests.specs.Tests.{INSTANT_BYTE, judge_tape}
use Rattle.tape_tests.proofs.tape_judged.Goals as goal

pub returns : goal.returns
unfolding judge_tape located
returns c =
    let g : c.map_err.result ≡ located c.args.line.now INSTANT_BYTE c.tape_tested.result = search rules in
    g ∙ ap (located c.args.line.now INSTANT_BYTE) c.tape_tested.ensures
