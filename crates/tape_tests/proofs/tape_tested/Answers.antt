-- `tape_tests::tape_tested` meets its contract: the calls are the tests of the definition, and `in_order` keeps their order.
-- Assumes nothing.
use mathlib.Core.Path.{◌∙◌}
use Rattle.answers.specs.declared.Name.TheVariants.{Request}
use Rattle.line_readers.specs.Order.{in_order}
use Rattle.tape_tests.specs.Tests.{tape_tests}
use Rattle.tape_tests.proofs.tape_tested.Goals as goal

pub returns : goal.returns
unfolding tape_tests
returns c =
    c.in_order.ensures
    ∙ (λ i. in_order (record { framed = c.is_framed-framed.ensures i; checked = c.is_checked-checked.ensures i; kind = c.of_tape-kind.ensures i; room = c.has_room-room.ensures i; field = c.in_time-field.ensures i; last = c.ask_fits-request.ensures i }) Request c.args.place)
