-- How long the row is.
-- Assumes nothing.
use Rattle.std.specs.Prelude.{◌≡◌, refl, List, ℕ, length}
use Rattle.trigger_frames.specs.Row.{trigger_row}

pub length_trigger : (f : List ℕ) → length (trigger_row f) ≡ 13
unfolding trigger_row
length_trigger f = refl
