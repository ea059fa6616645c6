-- `writer::periodic_frame` meets its contract: the kind, then a call for each byte of the row.
-- Assumes nothing.
use Prim.Native.Nat.{ℕ, suc, ◌+◌, ◌-◌}
use mathlib.Core.Path.{◌≡◌, ap, ◌∙◌}
use native.Mathlib.Omega.{arith}
use borrow.Author.Tests.{tests}
use Rattle.tables.specs.Layout.{byte_at, PERIODIC_BYTES}
use Rattle.std.specs.Prelude.{eqb}
use mathlib.Core.Bool.{cond}
use Rattle.kinds.specs.Kinds.{PERIODIC}
use Rattle.writer.proofs.Laws.Frames.{made_by_calls, after_kind}
use borrow.Author.Rules.{rules}
use Rattle.writer.proofs.periodic_frame.Goals as goal

pub returns : goal.returns
returns c =
    let a = c.args in
    let r : ℕ → ℕ = λ k. byte_at a.table.now (a.at + k - 1) in
    made_by_calls _ _ (λ k. cond (eqb k 0) PERIODIC (r k)) (λ k y q d. search (rules, tests)) _ _ c.from_fn.ensures.items ∙ after_kind PERIODIC PERIODIC_BYTES r (λ k. byte_at a.table.now (a.at + k)) (λ k. let z : a.at + suc k - 1 ≡ a.at + k = omega arith in ap (byte_at a.table.now) z)
