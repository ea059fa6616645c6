-- `instant::act` meets its contract: its parts, one after the other.
-- Assumes nothing.
use mathlib.Core.Path.{subst}
use mathlib.Core.List.{List}
use Prim.Native.Nat.{ℕ}
use Rattle.solver.specs.Solved.{Solved}
use Rattle.instant.proofs.act.Goals as goal

pub returns : goal.returns
returns c =
    record {
      wide = c.row_known-2-1.given.fits;
      solved = subst (λ (full : List ℕ). Solved c.args.levels.now c.args.given.now.triggers.now c.args.given.now.counts.triggers c.args.enabled.now full c.solve.new.events) c.fill.ensures c.solve.ensures;
      waits = c.refill.ensures;
      roles = c.roles_after.ensures;
      next = cc;
    }
