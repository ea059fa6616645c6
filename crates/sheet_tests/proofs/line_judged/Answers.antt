-- `sheet_tests::line_judged` meets its contract: the tests in their order, and a refusal gets its column.
-- Assumes nothing.
use mathlib.Core.Path.{◌≡◌, ap, ◌∙◌}
use borrow.Author.Rules.{rules}
use Rattle.line_readers.specs.Column.{located}
use Rattle.sheet_tests.specs.Judge.{line_field, judge_line}
use Rattle.sheet_tests.proofs.line_judged.Goals as goal

pub returns : goal.returns
unfolding judge_line located
returns c =
    let a = c.args in
    let g : c.map_err.result ≡ located a.line.now (line_field a.s a.line.now) c.line_tested.result = search rules in
    g ∙ ap (located a.line.now (line_field a.s a.line.now)) c.line_tested.ensures
