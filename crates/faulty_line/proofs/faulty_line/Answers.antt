-- `faulty_line::faulty_line` meets its contract: the part that is found, of its text.
-- Assumes nothing.
use mathlib.Core.Path.{sym, ◌∙◌}
use Rattle.faulty_line.specs.Laws.{begins_so, ends_in_tape, ends_in_sheet}
use Rattle.faulty_line.proofs.faulty_line.Goals as goal

pub slice_bounds-result-count : goal.slice_bounds-result-count
slice_bounds-result-count c =
    let a = c.args in begins_so a.sheet.now a.tape.now a.r _ (sym c.in-Sheet.is ∙ c.faulty_part-p.ensures)

pub slice_bounds-result-start : goal.slice_bounds-result-start
slice_bounds-result-start c =
    let a = c.args in begins_so a.sheet.now a.tape.now a.r _ (sym c.in-Sheet.is ∙ c.faulty_part-p.ensures)

pub slice_bounds-result-end : goal.slice_bounds-result-end
slice_bounds-result-end c =
    let a = c.args in ends_in_sheet a.sheet.now a.tape.now a.r _ c.faulty_part-p.ensures _ c.in-Sheet.is

pub slice_bounds-result-count-in-Tape : goal.slice_bounds-result-count-in-Tape
slice_bounds-result-count-in-Tape c =
    let a = c.args in begins_so a.sheet.now a.tape.now a.r _ (sym c.in-Tape.is ∙ c.faulty_part-p.ensures)

pub slice_bounds-result-start-in-Tape : goal.slice_bounds-result-start-in-Tape
slice_bounds-result-start-in-Tape c =
    let a = c.args in begins_so a.sheet.now a.tape.now a.r _ (sym c.in-Tape.is ∙ c.faulty_part-p.ensures)

pub slice_bounds-result-end-in-Tape : goal.slice_bounds-result-end-in-Tape
slice_bounds-result-end-in-Tape c =
    let a = c.args in ends_in_tape a.sheet.now a.tape.now a.r _ c.faulty_part-p.ensures _ c.in-Tape.is
