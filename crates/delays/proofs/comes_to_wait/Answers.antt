-- `delays::comes_to_wait` meets its contract: the definition's tests in their order, each asked where those before it pass.
-- Assumes nothing.
use mathlib.Core.Path.{refl, sym, ◌∙◌}
use borrow.Author.Tests.{not-false}
use Rattle.tables.proofs.Laws.{delay_byte}
use Rattle.delays.specs.Laws.{delay_none, delay_some}
use Rattle.delays.proofs.comes_to_wait.Goals as goal

pub returns-then-trigger_byte-eq0 : goal.returns-then-trigger_byte-eq0
returns-then-trigger_byte-eq0 c =
    let a = c.args in
    rw (delay_none _ _ (c.trigger_byte.ensures ∙ delay_byte a.triggers.now a.i) c.if-trigger_byte-eq0.true) refl

pub returns : goal.returns
returns c =
    let a = c.args in
    rw (sym c.allows.ensures ∙ not-false _ c.if-not-allows.false-raw, delay_some _ _ (c.trigger_byte.ensures ∙ delay_byte a.triggers.now a.i) c.if-trigger_byte-eq0.false) c.met.ensures
