-- Laws of the tables: what the single bytes of a trigger are, and rows that are pasted in.
-- Assumes nothing.
use Rattle.std.specs.Prelude.{◌≡◌, List, ℕ, ◌+◌, ◌*◌, ◌≤◌, ◌<◌, length, get_or, set}
use Rattle.std.proofs.Math.Path.{refl}
use Rattle.std.proofs.Common.{append-nil, add-one, arith, drop_of_length-le}
use Rattle.std.proofs.Math.Nat.{add-zero}
use Rattle.std.proofs.Math.Seq.{paste, paste-suc, take-length}
use Rattle.tables.specs.Layout.{TRIGGER_BYTES, byte_at, trigger_from, trigger_at}
pub mod Sample
pub mod Used

-- ---- the single bytes of a trigger, as `trigger_byte` reads them

module _ (table : List ℕ) (i : ℕ) where
  pub event_count_byte : byte_at table (TRIGGER_BYTES * i + 0) ≡ (trigger_at table i).event_count
  unfolding trigger_from
  event_count_byte = rw add-zero refl

  pub condition_count_byte : byte_at table (TRIGGER_BYTES * i + 1) ≡ (trigger_at table i).condition_count
  unfolding trigger_from
  condition_count_byte = refl

  pub head_byte : byte_at table (TRIGGER_BYTES * i + 10) ≡ (trigger_at table i).head
  unfolding trigger_from
  head_byte = refl

  pub priority_byte : byte_at table (TRIGGER_BYTES * i + 11) ≡ (trigger_at table i).priority
  unfolding trigger_from
  priority_byte = refl

  pub delay_byte : byte_at table (TRIGGER_BYTES * i + 12) ≡ (trigger_at table i).delay
  unfolding trigger_from
  delay_byte = refl

-- ---- rows that are pasted in

-- one byte more of a row
pub copy_more : (t d : List ℕ) (at : ℕ) (s : List ℕ) (j : ℕ) → t ≡ paste d at s j → at + length s ≤ length d → j < length s
    → set t (at + j) (get_or s j 0) ≡ paste d at s (j + 1)
copy_more t d at s j e h k = rw (e, add-one) (paste-suc d at s j 0 (omega arith) k)

-- a whole table over another
pub paste_all : (d s : List ℕ) → length s ≡ length d → paste d 0 s (length s) ≡ s
paste_all d s e =
    let h : length d ≤ 0 + length s = omega arith in
    rw (take-length s, drop_of_length-le d h) (append-nil s)
