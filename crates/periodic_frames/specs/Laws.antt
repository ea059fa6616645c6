-- How long the row is.
-- Assumes nothing.
use Rattle.std.specs.Prelude.{◌≡◌, refl, List, ℕ, length}
use Rattle.periodic_frames.specs.Row.{periodic_row}

pub length_periodic : (f : List ℕ) → length (periodic_row f) ≡ 16
unfolding periodic_row
length_periodic f = refl
