-- The contract of this crate's public function leaves one possible answer and one possible content of the tables.
-- Assumes nothing.
use Rattle.std.specs.Prelude.{◌≡◌, List, ℕ, Result}
use Rattle.std.proofs.Common.{ap}
use Rattle.theory.proofs.Laws.Exact.{exact}
use Rattle.day_input.specs.Planned.{Planned, opened, planned}
use Rattle.answers.specs.declared.Refusal.{Refusal}
use Rattle.day_input.specs.declared.Plan.{Plan}

pub open_exact : (input : List ℕ) (r r' : Result Plan Refusal) (p₁ p₂ t₁ t₂ : List ℕ) → opened r p₁ t₁ ≡ planned input → opened r' p₂ t₂ ≡ planned input → (r ≡ r') × (p₁ ≡ p₂) × (t₁ ≡ t₂)
open_exact input r r' p₁ p₂ t₁ t₂ h h' =
    let e : opened r p₁ t₁ ≡ opened r' p₂ t₂ = exact h h' in
    (ap (λ (x : Planned). x.answer) e, ap (λ (x : Planned). x.tables.periodics) e, ap (λ (x : Planned). x.tables.triggers) e)
