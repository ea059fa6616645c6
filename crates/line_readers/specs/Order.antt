-- The tests of a line in their order, FRAME, CHECK, KIND, TOO MANY, FIELD and one more, which is COUNT in a sheet and REQUEST in a tape.
-- Assumes nothing.
use Rattle.std.specs.Prelude.{cond, ℕ}
use Rattle.answers.specs.declared.Name.{Name}
use Rattle.answers.specs.declared.Name.TheVariants.{Frame, Check, Kind, Field, TooMany}
use Rattle.answers.specs.Answers.{refuse, Verdict, pass}
use Rattle.line_readers.specs.declared.Tests.{Tests}

-- the first that fails gives its refusal. `name` is that of the last.
unfoldable pub in_order : Tests → Name → ℕ → Verdict
in_order t name place =
    cond t.framed
    (cond t.checked
    (cond t.kind
    (cond t.room
    (cond t.field
    (cond t.last pass (refuse name place))
    (refuse Field place))
    (refuse TooMany place))
    (refuse Kind place))
    (refuse Check place))
    (refuse Frame place)
