-- `day_split::split` meets its contract. The loop's invariant: the parts of the lines from `at` on, with what stands before, are those of all. The measure is what is left of the input.
-- Assumes nothing.
use Rattle.std.proofs.Common.{sym, ◌∙◌, arith}
use Rattle.text.specs.Laws.Lines.{first_line}
use Rattle.day_split.proofs.Laws.Loop.{parted_none, parted_endless, parted_here, parted_next}
use Rattle.day_split.proofs.split.Goals as goal

pub returns-then-begins_end : goal.returns-then-begins_end
returns-then-begins_end c =
    let f = first_line c.args.input.now c.loop-line.at c.in-Some.line.now c.in-Some.ensures in
    (parted_here _ _ _ _ c.in-Some.ensures (sym c.begins_end.ensures ∙ c.if-begins_end.true) ∙ c.loop-line.invariant.1, (omega (arith, f.1), omega (arith, f.1)))

pub loop-line-preserved : goal.loop-line-preserved
loop-line-preserved c =
    let f = first_line c.args.input.now c.loop-line.at c.in-Some.line.now c.in-Some.ensures in
    ((omega (arith, f.1), omega arith), parted_next _ _ _ _ c.in-Some.ensures (sym c.begins_end.ensures ∙ c.if-begins_end.false) ∙ c.loop-line.invariant.1)

pub returns-then-at-input : goal.returns-then-at-input
returns-then-at-input c =
    (parted_endless _ _ _ c.in_default.ensures c.if-at-input.true ∙ c.loop-line.invariant.1, (omega arith, omega arith))

pub returns : goal.returns
returns c =
    (parted_none _ _ _ c.if-at-input.false ∙ c.loop-line.invariant.1, (omega arith, omega arith))
