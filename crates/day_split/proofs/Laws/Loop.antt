-- One turn of the loop over an input's lines, with the cursor at the start of a line.
-- Assumes nothing.
use Rattle.std.specs.Prelude.{◌≡◌, refl, true, false, List, ℕ, ◌+◌, ◌≤◌, ◌<◌, None, Some, drop}
use Rattle.std.proofs.Common.{arith, drop_of_length-le}
use Rattle.std.proofs.Math.ListN.{length, length-drop}
use Rattle.text.specs.Lines.{lines, first_ended}
use Rattle.text.specs.Laws.Lines.{next_line, last_line}
use Rattle.day_split.specs.declared.Parts.{Parts}
use Rattle.day_split.specs.Split.{begins_end, up_to_end, byte_count, line_count}
use Rattle.day_split.specs.Parted.{parted}

-- two numbers make a split
split_of : (b b' n n' : ℕ) → b ≡ b' → n ≡ n' → ◌≡◌ {A = Parts} (record { bytes = b; lines = n }) (record { bytes = b'; lines = n' })
split_of b b' n n' e f = λ i. record { bytes = e i; lines = f i }

module _ (text : List ℕ) (at n : ℕ) where
  -- after the last line
  pub parted_none : length text ≤ at → ◌≡◌ {A = Parts} (record { bytes = at; lines = n }) (parted at n (lines (drop at text)))
  unfolding up_to_end byte_count line_count
  parted_none h = rw (drop_of_length-le text h) (split_of at (at + 0) n (n + 0) (omega arith) (omega arith))

  -- a last line without its 0A
  pub parted_endless : None ≡ first_ended (lines (drop at text)) → at < length text
      → ◌≡◌ {A = Parts} (record { bytes = length text; lines = n + 1 }) (parted at n (lines (drop at text)))
  unfolding up_to_end byte_count line_count
  parted_endless is h = rw (last_line text at is h) (split_of (length text) (at + length (drop at text)) (n + 1) (n + 1) (omega (arith, length-drop at text)) refl)

  -- a line with its 0A
  module _ (l : List ℕ) (is : Some l ≡ first_ended (lines (drop at text))) where
    pub parted_here : begins_end l ≡ true → ◌≡◌ {A = Parts} (record { bytes = at + (length l + 1); lines = n + 1 }) (parted at n (lines (drop at text)))
    unfolding up_to_end byte_count line_count
    parted_here b = rw (next_line text at l is, b) (split_of (at + (length l + 1)) _ (n + 1) _ (omega arith) (omega arith))

    pub parted_next : begins_end l ≡ false → parted (at + (length l + 1)) (n + 1) (lines (drop (at + (length l + 1)) text)) ≡ parted at n (lines (drop at text))
    unfolding up_to_end byte_count line_count
    parted_next b = rw (next_line text at l is, b) (split_of _ _ _ _ (omega arith) (omega arith))
