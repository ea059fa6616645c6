-- `keys::chains` meets its contract. The loop's invariant: the triggers from i on are chained.
-- Assumes nothing.
use mathlib.Core.Path.{◌≡◌, refl, ap}
use Prim.Native.Nat.{ℕ, ◌+◌, ◌-◌}
use Rattle.keys.specs.Keys.{key_in}
use Rattle.keys.specs.Laws.{chained_none, chained_next}
use native.Mathlib.Omega.{arith}
use Rattle.keys.proofs.chains.Goals as goal

pub loop-i-init : goal.loop-i-init
loop-i-init c =
    let a = c.args in
    chained_none (key_in a.triggers.now a.levels.now a.roles a.n) a.n

pub loop-i-preserved : goal.loop-i-preserved
loop-i-preserved c =
    let l = c.loop-i in
    let e : l.i ≡ l.i - 1 + 1 = omega arith in
    chained_next _ _ l.i _ l.r _ _ _ _ e l.auto.i c.requires c.row_index-at.ensures
    (c.key_of-key.ensures.1 c.args.n) c.key_of-key.ensures.0 (ap (λ (x : ℕ). 256 + x) c.row_index-front.ensures) refl l.invariant
