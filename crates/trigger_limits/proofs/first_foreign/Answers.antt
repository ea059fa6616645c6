-- `trigger_limits::first_foreign` meets its contract. The loop's invariant: none of the bytes below j is found.
-- Assumes nothing.
use mathlib.Core.Path.{◌≡◌}
use mathlib.Core.Bool.{Bool, true, not}
use Prim.Native.Nat.{ℕ, ◌+◌}
use Rattle.theory.specs.Sheet.{of_roles}
use Rattle.theory.proofs.Laws.First.{search_found}
use Rattle.tables.specs.Layout.{byte_at}
use borrow.Author.Rules.{rules}
use Rattle.trigger_limits.proofs.first_foreign.Goals as goal

pub returns-then-not-of_roles : goal.returns-then-not-of_roles
returns-then-not-of_roles c =
    let a = c.args in
    let f : ℕ → Bool = λ x. not (of_roles a.roles (byte_at a.table.now (a.at + x))) in
    let z : f c.loop-j.j ≡ true = cc c.if-not-of_roles.true-raw in
    search_found c.loop-j.j f c.loop-j.invariant a.n (search rules) z
