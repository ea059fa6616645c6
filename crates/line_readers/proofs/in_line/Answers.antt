-- `line_readers::in_line` meets its contract: the refusal, in the column of its name.
-- Assumes nothing.
use mathlib.Core.Path.{ap, ◌∙◌}
use Prim.Native.Nat.{ℕ}
use Rattle.answers.specs.Answers.{in_column}
use Rattle.line_readers.proofs.in_line.Goals as goal

pub returns : goal.returns
returns c =
    c.in_column.ensures ∙ ap (λ (k : ℕ). in_column k c.args.r) c.column_of.ensures
