-- The contract of the reader leaves one possible answer and one possible content of the lent tables.
-- Assumes nothing.
use Rattle.std.specs.Prelude.{◌≡◌, List, ℕ, Result}
use Rattle.std.proofs.Common.{ap}
use Rattle.theory.proofs.Laws.Exact.{exact}
use Rattle.reader.specs.Out.{ReadOutcome, read_outcome}
use Rattle.reader.specs.Reading.{reading}
use Rattle.answers.specs.declared.Refusal.{Refusal}
use Rattle.tables.specs.declared.Counts.{Counts}

-- the parts of an outcome
pub outcome_one : (a a' : Result Counts Refusal) (p₁ p₂ t₁ t₂ : List ℕ) → read_outcome a p₁ t₁ ≡ read_outcome a' p₂ t₂ → (a ≡ a') × (p₁ ≡ p₂) × (t₁ ≡ t₂)
outcome_one a a' p₁ p₂ t₁ t₂ e = (ap (λ (o : ReadOutcome). o.answer) e, ap (λ (o : ReadOutcome). o.tables.periodics) e, ap (λ (o : ReadOutcome). o.tables.triggers) e)

pub read_sheet_exact : (sheet p t : List ℕ) (a a' : Result Counts Refusal) (p₁ p₂ t₁ t₂ : List ℕ)
    → read_outcome a p₁ t₁ ≡ reading sheet p t → read_outcome a' p₂ t₂ ≡ reading sheet p t
    → (a ≡ a') × (p₁ ≡ p₂) × (t₁ ≡ t₂)
read_sheet_exact sheet p t a a' p₁ p₂ t₁ t₂ h h' = outcome_one a a' p₁ p₂ t₁ t₂ (exact h h')
