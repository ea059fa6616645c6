-- `reader::read_sheet` meets its contract: LENGTH first, then the reading.
-- Assumes nothing.
use mathlib.Core.Path.{sym, ◌∙◌}
use Rattle.reader.specs.Reading.{reading}
use Rattle.reader.proofs.Laws.Lengths.{lengths_say}
use Rattle.reader.proofs.read_sheet.Goals as goal

pub unwrap-per-requires : goal.unwrap-per-requires
unwrap-per-requires c =
    c.as_mut_array.ensures.variant.1 (lengths_say _ _ _ (sym c.sheet_lengths_fit.ensures ∙ c.if-sheet_lengths_fit.true)).1.0

pub unwrap-trg-requires : goal.unwrap-trg-requires
unwrap-trg-requires c =
    c.as_mut_array-then-sheet_lengths_fit.ensures.variant.1 (lengths_say _ _ _ (sym c.sheet_lengths_fit.ensures ∙ c.if-sheet_lengths_fit.true)).1.1

pub read_within-requires : goal.read_within-requires
read_within-requires c =
    (lengths_say _ _ _ (sym c.sheet_lengths_fit.ensures ∙ c.if-sheet_lengths_fit.true)).0

pub returns-then-sheet_lengths_fit : goal.returns-then-sheet_lengths_fit
unfolding reading
returns-then-sheet_lengths_fit c =
    let p = (rw c.unwrap-per.ensures at c.as_mut_array.ensures.cases).same in
    let t = (rw c.unwrap-trg.ensures at c.as_mut_array-then-sheet_lengths_fit.ensures.cases).same in
    rw (sym c.sheet_lengths_fit.ensures ∙ c.if-sheet_lengths_fit.true) (rw (p, t) at c.read_within.ensures)

pub returns : goal.returns
unfolding reading
returns c =
    rw (sym c.sheet_lengths_fit.ensures ∙ c.if-sheet_lengths_fit.false, c.refusal_of.ensures)
