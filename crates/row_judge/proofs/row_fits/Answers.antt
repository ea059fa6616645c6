-- `row_judge::row_fits` meets its contract: a row below the periodic count is a periodic row, and from there on it is a trigger.
-- Assumes nothing.
use mathlib.Core.Path.{sym, ap, ◌∙◌}
use Rattle.theory.specs.Sheet.{periodic_fits}
use Rattle.tables.specs.Layout.{sheet_of}
use Rattle.tables.specs.Lent.{rules_of, sheet_in}
use Rattle.row_judge.proofs.Laws.{fits_periodic, fits_after}
use borrow.Author.Rules.{rules as search_rules}
use Rattle.row_judge.proofs.row_fits.Goals as goal

pub returns-then-k-counts : goal.returns-then-k-counts
unfolding sheet_of
returns-then-k-counts c =
    let a = c.args in
    c.periodic_fits.ensures ∙ ap (periodic_fits a.given.now.counts.roles) c.periodic_row-row.ensures ∙ sym (fits_periodic (sheet_in (rules_of a.given.now)) a.k (search search_rules))

pub returns : goal.returns
unfolding sheet_of
returns c =
    let a = c.args in
    c.trigger_fits.ensures ∙ sym (fits_after (sheet_in (rules_of a.given.now)) a.k (search search_rules))
