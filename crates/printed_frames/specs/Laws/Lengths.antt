-- How long the frames are.
-- Assumes nothing.
use Rattle.std.specs.Prelude.{◌≡◌, refl, ℕ, length}
use Rattle.printed_frames.specs.Frames.{refusal_frame, minute_frame}

pub length_minute : (instant roles count : ℕ) → length (minute_frame instant roles count) ≡ 14
length_minute instant roles count = refl

pub length_refusal : (number place column : ℕ) → length (refusal_frame number place column) ≡ 10
length_refusal number place column = refl
