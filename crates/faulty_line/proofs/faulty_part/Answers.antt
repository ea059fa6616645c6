-- `faulty_line::faulty_part` meets its contract: by the name, the place, and what the search found.
-- Assumes nothing.
use mathlib.Core.Path.{sym, ap, ◌∙◌}
use Rattle.theory.proofs.Laws.Tests.{held, fell}
use Rattle.faulty_line.specs.Part.{in_sheet}
use Rattle.faulty_line.specs.Laws.{no_line, no_place, at_place}
use Rattle.faulty_line.proofs.faulty_part.Goals as goal

pub returns-then-not-has_line : goal.returns-then-not-has_line
returns-then-not-has_line c =
    let a = c.args in
    c.end_of.ensures ∙ no_line a.sheet.now a.tape.now a.r (fell c.has_line.ensures c.if-not-has_line.true-raw)

pub returns-then-r-eq0 : goal.returns-then-r-eq0
returns-then-r-eq0 c =
    let a = c.args in
    c.end_of-then-r-eq0.ensures ∙ no_place a.sheet.now a.tape.now a.r (held c.has_line.ensures c.if-not-has_line.false-raw) c.if-r-eq0.true

pub returns-in-Ok : goal.returns-in-Ok
returns-in-Ok c =
    let a = c.args in
    ap (in_sheet a.tape.now) (sym c.in-Ok.is ∙ c.seek-s.ensures) ∙ at_place a.sheet.now a.tape.now a.r (held c.has_line.ensures c.if-not-has_line.false-raw) c.if-r-eq0.false

pub returns-in-Err : goal.returns-in-Err
returns-in-Err c =
    let a = c.args in
    c.in_tape.ensures ∙ (ap (in_sheet a.tape.now) (sym c.in-Err.is ∙ c.seek-s.ensures) ∙ at_place a.sheet.now a.tape.now a.r (held c.has_line.ensures c.if-not-has_line.false-raw) c.if-r-eq0.false)
