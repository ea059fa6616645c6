-- A minute is the batch, and the step with it.
-- Assumes nothing.
use Rattle.std.specs.Prelude.{◌≡◌, refl, List, ℕ, ◌^◌, ◌<◌, drop}
use Rattle.std.proofs.Common.{ap, subst}
use Rattle.text.specs.Lines.{lines}
use Rattle.tables.specs.Asked.{flat}
use Rattle.tables.specs.Lent.{Rules, Lent}
use Rattle.step.specs.Outcome.{Outcome}
use Rattle.tape_batches.specs.declared.Batch.{Batch}
use Rattle.day_minute.specs.Minute.{batch_at, rest_at, MinuteOutcome}
use Rattle.answers.specs.Answers.{Verdict}

pub minute_of : (R : Rules) (tape : List ℕ) (at : ℕ) (before : Lent) (b : Batch) → (b ≡ batch_at tape at before) × (lines (drop b.next tape) ≡ rest_at tape at before)
    → (v : Verdict) (after : Lent) → Outcome R (flat b.asked b.count) before v after → after.roles < 2 ^ 64 → MinuteOutcome R tape at before (record { verdict = v; next = b.next; enabled = after.roles }) after
minute_of R tape at before b e v after x w =
    record {
      step = subst (λ (y : Batch). Outcome R (flat y.asked y.count) before v after) e.0 x;
      next = ap (λ (y : Batch). y.next) e.0;
      roles = (refl, w);
      goes_on = e.1;
    }
