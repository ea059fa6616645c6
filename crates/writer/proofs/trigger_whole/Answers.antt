-- `writer::trigger_whole` meets its contract: the kind, then a call for each byte that the frame has at most.
-- Assumes nothing.
use Prim.Native.Nat.{ℕ, suc, ◌+◌}
use mathlib.Core.Path.{refl, ◌∙◌}
use borrow.Author.Tests.{tests}
use Rattle.tables.specs.Layout.{byte_at, TRIGGER_BYTES}
use Rattle.std.specs.Prelude.{eqb}
use mathlib.Core.Bool.{cond}
use Rattle.writer.specs.Made.{row_place}
use Rattle.kinds.specs.Kinds.{TRIGGER}
use Rattle.writer.proofs.Laws.Frames.{made_by_calls, after_kind}
use borrow.Author.Rules.{rules}
use Rattle.writer.proofs.trigger_whole.Goals as goal

pub returns : goal.returns
returns c =
    let a = c.args in
    let r : ℕ → ℕ = λ k. byte_at a.table.now (a.at + row_place a.e a.c k) in
    made_by_calls _ _ (λ k. cond (eqb k 0) TRIGGER (r k)) (λ k y q d. search (rules, tests)) _ _ c.from_fn.ensures.items ∙ after_kind TRIGGER TRIGGER_BYTES r (λ k. r (suc k)) (λ k. refl)
