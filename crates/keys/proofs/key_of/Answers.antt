-- `keys::key_of` meets its contract: its returns are the cases of the definition.
-- Assumes nothing.
use mathlib.Core.Path.{sym, ap, ◌∙◌}
use borrow.Author.Tests.{not-true, not-false}
use Rattle.theory.proofs.Laws.Solving.{key_uncounted, key_forbidden, key_raised}
use Rattle.tables.specs.Layout.{byte_at, sheet_of}
use Rattle.tables.proofs.Laws.{head_byte}
use borrow.Author.Rules.{rules}
use Rattle.keys.proofs.key_of.Goals as goal

pub returns-then-not-counts_at : goal.returns-then-not-counts_at
returns-then-not-counts_at c =
    (search rules, λ n. key_uncounted _ _ _ _ (sym (c.counts_at.ensures n) ∙ not-true _ c.if-not-counts_at.true-raw))

pub returns-then-not-allows : goal.returns-then-not-allows
unfolding sheet_of
returns-then-not-allows c =
    (search rules, λ n. key_forbidden _ _ _ _ (sym c.allows.ensures ∙ not-true _ c.if-not-allows.true-raw))

pub returns : goal.returns
unfolding sheet_of
returns c =
    let levels = c.args.levels.now in (
      search rules,
      λ n.
          key_raised _ _ _ _ _
          (sym (c.counts_at.ensures n) ∙ not-false _ c.if-not-counts_at.false-raw)
          (sym c.allows.ensures ∙ not-false _ c.if-not-allows.false-raw)
          (c.byte-level.ensures ∙ ap (byte_at levels) (c.index.ensures ∙ c.trigger_byte.ensures ∙ head_byte _ _)),
    )
