-- `sheet_tests::line_tested` meets its contract: the calls are the tests of the definition, and `in_order` keeps their order.
-- Assumes nothing.
use mathlib.Core.Path.{◌∙◌}
use Rattle.answers.specs.declared.Name.TheVariants.{Count}
use Rattle.line_readers.specs.Order.{in_order}
use Rattle.sheet_tests.specs.Judge.{line_tests}
use Rattle.sheet_tests.proofs.line_tested.Goals as goal

pub returns : goal.returns
unfolding line_tests
returns c =
    let k = c.byte_at-k.ensures in
    let is_kind = rw k at c.is_kind-kind.ensures in
    let has_room = rw k at c.has_room-room.ensures in
    let fits = rw k at c.frame_fits-field.ensures in
    let agrees = rw k at c.end_agrees-count.ensures in
    c.in_order.ensures
    ∙ (λ i. in_order (record { framed = c.is_framed-framed.ensures i; checked = c.is_checked-checked.ensures i; kind = is_kind i; room = has_room i; field = fits i; last = agrees i }) Count c.args.place)
