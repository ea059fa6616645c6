-- `solver::by_keys` meets its contract. The loop's invariant: the key k is reached, all lower keys being done.
-- Assumes nothing.
use mathlib.Core.Path.{refl}
use Rattle.theory.proofs.Laws.Solving.{reached_first, reached_next}
use Rattle.tables.specs.Layout.{sheet_of, triggers_of}
use Rattle.solver.specs.Laws.{solved_last}
use native.Mathlib.Omega.{arith}
use Rattle.solver.proofs.by_keys.Goals as goal

pub loop-k-init : goal.loop-k-init
unfolding sheet_of
loop-k-init c =
    let a = c.args in
    let e = c.next-k.ensures in
    (refl, e.0, e.1, reached_first (triggers_of a.n a.triggers.now) _ _ _ (e.2 _ c.chains-chains.ensures))

pub loop-k-preserved : goal.loop-k-preserved
unfolding sheet_of
loop-k-preserved c =
    let a = c.args in
    let h = c.chains-chains.ensures in
    let p = c.settle.ensures _ h in
    let e = c.next-k-in-loop-k.ensures in (
      omega arith,
      omega (arith, e.0),
      e.1,
      reached_next (triggers_of a.n a.triggers.now) _ _ _ _ _ _ e.0 (e.2 _ h) p.0 p.1 c.loop-k.invariant.3,
    )

pub returns : goal.returns
returns c =
    solved_last c.args.levels.now c.args.triggers.now c.args.n c.args.roles _ _ c.loop-k.k
    c.loop-k.invariant.0 (omega (arith, c.loop-k-test.false)) c.chains-chains.ensures.fits c.loop-k.invariant.3
