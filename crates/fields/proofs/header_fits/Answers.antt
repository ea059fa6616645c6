-- `fields::header_fits` meets its contract: all tests pass where the first that fails is past the last.
-- Assumes nothing.
use mathlib.Core.Path.{sym, ap, ◌∙◌}
use Prim.Native.Nat.{ℕ}
use lib.Dec.{eqb}
use Rattle.theory.proofs.Laws.All.{all_first}
use Rattle.fields.specs.Fields.{header_tests, header_fits}
use Rattle.fields.proofs.header_fits.Goals as goal

pub returns : goal.returns
unfolding header_fits
returns c =
    ap (λ (k : ℕ). eqb k 2) c.first_bad_header.ensures ∙ sym (all_first (header_tests c.args.version c.args.roles))
