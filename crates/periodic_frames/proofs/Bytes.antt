-- The bytes of a periodic frame's row: byte k of the row is byte k + 1 of the frame.
-- Assumes nothing.
use Rattle.std.specs.Prelude.{◌≡◌, refl, List, ℕ, zero, suc, ◌+◌, ◌<◌, length, get_or}
use Rattle.std.proofs.Common.{sym, ◌∙◌, arith}
use Rattle.std.proofs.lemmas.Grind.{same_number_lists}
use Rattle.tables.specs.Layout.{byte_at}
use Rattle.periodic_frames.specs.Row.{periodic_row}
use Rattle.periodic_frames.specs.Laws.{length_periodic}

row_byte : (f : List ℕ) (k : ℕ) → k < 16 → get_or (periodic_row f) k 0 ≡ byte_at f (1 + k)
unfolding periodic_row
row_byte f zero h = refl
row_byte f (suc zero) h = refl
row_byte f (suc (suc zero)) h = refl
row_byte f (suc (suc (suc zero))) h = refl
row_byte f (suc (suc (suc (suc zero)))) h = refl
row_byte f (suc (suc (suc (suc (suc zero))))) h = refl
row_byte f (suc (suc (suc (suc (suc (suc zero)))))) h = refl
row_byte f (suc (suc (suc (suc (suc (suc (suc zero))))))) h = refl
row_byte f (suc (suc (suc (suc (suc (suc (suc (suc zero)))))))) h = refl
row_byte f (suc (suc (suc (suc (suc (suc (suc (suc (suc zero))))))))) h = refl
row_byte f (suc (suc (suc (suc (suc (suc (suc (suc (suc (suc zero)))))))))) h = refl
row_byte f (suc (suc (suc (suc (suc (suc (suc (suc (suc (suc (suc zero))))))))))) h = refl
row_byte f (suc (suc (suc (suc (suc (suc (suc (suc (suc (suc (suc (suc zero)))))))))))) h = refl
row_byte f (suc (suc (suc (suc (suc (suc (suc (suc (suc (suc (suc (suc (suc zero))))))))))))) h = refl
row_byte f (suc (suc (suc (suc (suc (suc (suc (suc (suc (suc (suc (suc (suc (suc zero)))))))))))))) h = refl
row_byte f (suc (suc (suc (suc (suc (suc (suc (suc (suc (suc (suc (suc (suc (suc (suc zero))))))))))))))) h = refl
row_byte f (suc (suc (suc (suc (suc (suc (suc (suc (suc (suc (suc (suc (suc (suc (suc (suc k)))))))))))))))) h = absurd (omega arith)

pub row_is : (f row : List ℕ) → length row ≡ 16 → ((k : ℕ) → k < 16 → get_or row k 0 ≡ byte_at f (1 + k)) → row ≡ periodic_row f
row_is f row n same =
    same_number_lists row (periodic_row f) (n ∙ sym (length_periodic f)) (λ k h. let b : k < 16 = omega arith in same k b ∙ sym (row_byte f k b))
