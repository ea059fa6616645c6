-- `turns::sweeps` meets its contract. The loop's invariant: the sweeps so far keep the solver's invariant. It ends, since a sweep that is not the last has added a member.
-- Assumes nothing.
use Rattle.theory.proofs.Laws.Solving.{size_most}
use Rattle.tables.specs.Buffers.{events_of}
use native.Mathlib.Omega.{arith}
use Rattle.turns.proofs.sweeps.Goals as goal

pub loop-init : goal.loop-init
loop-init c =
    λ key h on G level st ks d. d

pub loop-smaller : goal.loop-smaller
loop-smaller c =
    let p = c.requires in
    omega (arith, (c.sweep.ensures p.1.0 p.1.1).more c.loop-test.true, size_most (events_of c.sweep.new.events))

pub loop-preserved : goal.loop-preserved
loop-preserved c =
    λ key h on G level st ks d. (c.sweep.ensures key h).keeps on G level st ks (c.loop.invariant key h on G level st ks d)

pub returns : goal.returns
returns c =
    λ key h.
    let e = c.sweep.ensures key h in
    (λ on G level st ks d. e.keeps on G level st ks (c.loop.invariant key h on G level st ks d), e.settled c.loop-test.false)
