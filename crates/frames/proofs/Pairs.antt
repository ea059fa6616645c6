-- The pairs of a line's characters: pair i has the characters 2i and 2i + 1.
-- Assumes nothing.
use Rattle.std.specs.Prelude.{◌≡◌, refl, List, [], ◌∷◌, ℕ, zero, suc, ◌+◌, ◌*◌, ◌/◌, ◌≤◌, ◌<◌, length, get_or}
use Rattle.std.proofs.Common.{ap₂, ◌∙◌, arith}
use Rattle.std.specs.Simd.{first_chunks}

pub pair_is : (l : List ℕ) (k i : ℕ) → i < k → k ≤ length l / 2 → get_or (first_chunks 2 k l) i [] ≡ get_or l (2 * i) 0 ∷ get_or l (2 * i + 1) 0 ∷ []
pair_is l zero i h s = absurd (omega arith)
pair_is [] (suc k) i h s = absurd (omega arith)
pair_is (a ∷ []) (suc k) i h s = absurd (omega arith)
pair_is (a ∷ b ∷ l) (suc k) zero h s = refl
pair_is (a ∷ b ∷ l) (suc k) (suc i) h s =
    let e : suc (suc (2 * i)) ≡ 2 * suc i = omega arith in
    let g : suc (suc (2 * i + 1)) ≡ 2 * suc i + 1 = omega arith in
    pair_is l k i (omega arith) (omega arith)
    ∙ ap₂ (λ (x y : ℕ). get_or (a ∷ b ∷ l) x 0 ∷ get_or (a ∷ b ∷ l) y 0 ∷ []) e g
