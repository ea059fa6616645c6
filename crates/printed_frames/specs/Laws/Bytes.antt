-- What stands in the frames are bytes, so that their lines read back (prints/Laws/Reads).
-- Assumes nothing.
use Rattle.std.specs.Prelude.{◌∷◌, ◌++◌, ℕ, zero, suc, ◌/◌, ◌%◌, ◌^◌}
use Rattle.std.proofs.Common.{arith}
use Rattle.prints.specs.Laws.Reads.{Bytes, bytes_none, bytes_cons, bytes_append}
use Rattle.printed_frames.specs.Frames.{bytes_in, refusal_frame, minute_frame}

bytes_in_lem : (k n : ℕ) → Bytes (bytes_in k n)
bytes_in_lem zero n = bytes_none
bytes_in_lem (suc k) n = bytes_cons ((n / 256 ^ k) % 256) (bytes_in k n) (omega arith) (bytes_in_lem k n)

pub bytes_refusal : (number place column : ℕ) → Bytes (refusal_frame number place column)
bytes_refusal number place column =
    bytes_append
    (0xe0 ∷ bytes_in 1 number)
    (bytes_in 4 place ++ bytes_in 4 column)
    (bytes_cons 0xe0 (bytes_in 1 number) (omega arith) (bytes_in_lem 1 number))
    (bytes_append (bytes_in 4 place) (bytes_in 4 column) (bytes_in_lem 4 place) (bytes_in_lem 4 column))

pub bytes_minute : (instant roles count : ℕ) → Bytes (minute_frame instant roles count)
bytes_minute instant roles count =
    bytes_append
    (0x50 ∷ bytes_in 4 instant)
    (bytes_in 8 roles ++ bytes_in 1 count)
    (bytes_cons 0x50 (bytes_in 4 instant) (omega arith) (bytes_in_lem 4 instant))
    (bytes_append (bytes_in 8 roles) (bytes_in 1 count) (bytes_in_lem 8 roles) (bytes_in_lem 1 count))
