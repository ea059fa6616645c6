-- The contract of this crate's public function leaves one possible answer and one possible content of the two tables.
-- Assumes nothing.
use Rattle.std.specs.Prelude.{◌≡◌, List, ℕ}
use Rattle.std.proofs.Common.{ap}
use Rattle.theory.proofs.Laws.Exact.{exact}
use Rattle.frames.specs.Frame.{bytes_of}
use Rattle.sheet_tests.specs.declared.Seen.{Seen}
use Rattle.sheet_acts.specs.Acts.{Progress, progress, after}

pub act_exact : (line : List ℕ) (s : Seen) (p t : List ℕ) (r r' : Seen) (p₁ p₂ t₁ t₂ : List ℕ)
    → progress r p₁ t₁ ≡ after (progress s p t) (bytes_of line) → progress r' p₂ t₂ ≡ after (progress s p t) (bytes_of line)
    → (r ≡ r') × (p₁ ≡ p₂) × (t₁ ≡ t₂)
act_exact line s p t r r' p₁ p₂ t₁ t₂ h h' =
    let e : progress r p₁ t₁ ≡ progress r' p₂ t₂ = exact h h' in
    (ap (λ (x : Progress). x.seen) e, ap (λ (x : Progress). x.tables.periodics) e, ap (λ (x : Progress). x.tables.triggers) e)
