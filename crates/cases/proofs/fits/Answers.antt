-- `cases::fits` meets its contract: what it asks of every place of the form is the definition's test.
-- Assumes nothing.
use mathlib.Core.Path.{refl, ◌∙◌}
use lib.ListN.{length}
use borrow.Author.Tests.{tests}
use Rattle.std.proofs.lemmas.Iterator.{YieldsList-from_range}
use Rattle.std.proofs.lemmas.Iterator.Search.{all_from_yields_List}
use Rattle.theory.proofs.Laws.Ranges.{all_in_range}
use Rattle.tables.specs.Layout.{byte_at}
use Rattle.cases.specs.Digits.{as_form}
use native.Mathlib.Omega.{arith}
use borrow.Author.Rules.{rules}
use Rattle.cases.proofs.fits.Goals as goal

pub returns : goal.returns
returns c =
    let a = c.args in
    let n = length a.form.now in
    let asked = YieldsList-from_range 0 n n refl (omega arith) in
    all_from_yields_List (λ i. as_form (byte_at a.line.now i) (byte_at a.form.now i)) _ _ _ c.all.ensures.ran asked (λ x b q k. search (rules, tests))
    ∙ all_in_range _ _
