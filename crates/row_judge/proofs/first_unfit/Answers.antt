-- `row_judge::first_unfit` meets its contract. The loop's invariant: of the first k rows all hold what they may.
-- Assumes nothing.
use mathlib.Core.Path.{sym, ap, ◌∙◌}
use mathlib.Core.Bool.{not}
use Rattle.theory.proofs.Laws.First.{search_none, search_next, search_found}
use Rattle.tables.specs.Layout.{sheet_of}
use Rattle.row_judge.specs.Judge.{first_unfit}
use borrow.Author.Rules.{rules as search_rules}
use Rattle.row_judge.proofs.first_unfit.Goals as goal

pub loop-k-init : goal.loop-k-init
loop-k-init c =
    search_none _

pub returns-then-not-row_fits : goal.returns-then-not-row_fits
unfolding first_unfit sheet_of
returns-then-not-row_fits c =
    search_found c.loop-k.k _ c.loop-k.invariant _ (search search_rules) (ap not (sym c.row_fits.ensures) ∙ c.if-not-row_fits.true-raw)

pub loop-k-preserved : goal.loop-k-preserved
loop-k-preserved c =
    search_next c.loop-k.k _ c.loop-k.invariant (ap not (sym c.row_fits.ensures) ∙ c.if-not-row_fits.false-raw)

pub returns : goal.returns
unfolding first_unfit sheet_of
returns c =
    search search_rules
