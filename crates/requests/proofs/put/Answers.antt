-- `requests::put` meets its contract: three stores, as in the definition.
-- Assumes nothing.
use mathlib.Core.Path.{refl}
use Rattle.requests.specs.Flat.{put_at}
use Rattle.requests.proofs.put.Goals as goal

pub returns : goal.returns
unfolding put_at
returns c =
    refl
