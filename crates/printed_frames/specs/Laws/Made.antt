-- The frames byte by byte, as the code makes them.
-- Assumes nothing.
use Rattle.std.specs.Prelude.{◌≡◌, [], ◌∷◌, ◌++◌, ℕ, ◌/◌, ◌%◌, ◌<◌}
use Rattle.std.proofs.Common.{ap, arith}
use Rattle.printed_frames.specs.Frames.{bytes_in, refusal_frame, minute_frame}

-- what is a byte already
byte_byte : (b : ℕ) → b < 256 → b ≡ (b / 1) % 256
byte_byte b h = omega arith

pub minute_made : (instant roles count : ℕ) → count < 256
    → 0x50
    ∷ (instant / 0x1000000) % 256
    ∷ (instant / 0x10000) % 256
    ∷ (instant / 0x100) % 256
    ∷ (instant / 1) % 256
    ∷ (roles / 0x100000000000000) % 256
    ∷ (roles / 0x1000000000000) % 256
    ∷ (roles / 0x10000000000) % 256
    ∷ (roles / 0x100000000) % 256
    ∷ (roles / 0x1000000) % 256
    ∷ (roles / 0x10000) % 256
    ∷ (roles / 0x100) % 256
    ∷ (roles / 1) % 256
    ∷ count
    ∷ [] ≡ minute_frame instant roles count
minute_made instant roles count h = ap (λ (b : ℕ). 0x50 ∷ bytes_in 4 instant ++ (bytes_in 8 roles ++ (b ∷ []))) (byte_byte count h)

pub refusal_made : (number place column : ℕ) → number < 256
    → 0xe0
    ∷ number
    ∷ (place / 0x1000000) % 256
    ∷ (place / 0x10000) % 256
    ∷ (place / 0x100) % 256
    ∷ (place / 1) % 256
    ∷ (column / 0x1000000) % 256
    ∷ (column / 0x10000) % 256
    ∷ (column / 0x100) % 256
    ∷ (column / 1) % 256
    ∷ [] ≡ refusal_frame number place column
refusal_made number place column h = ap (λ (b : ℕ). 0xe0 ∷ b ∷ bytes_in 4 place ++ bytes_in 4 column) (byte_byte number h)
