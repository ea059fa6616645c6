-- A minute of a day: a step with the requests of its instant that come next in the tape.
-- Assumes nothing.
use Rattle.std.specs.Prelude.{◌≡◌, List, ℕ, ◌^◌, ◌<◌, drop}
use Rattle.text.specs.Lines.{Lines, lines}
use Rattle.tables.specs.Asked.{flat}
use Rattle.tables.specs.Lent.{Rules, Lent}
use Rattle.step.specs.Outcome.{Outcome}
use Rattle.tape_batches.specs.declared.Batch.{Batch}
use Rattle.tape_batches.specs.Batch.{takes, rest, none_yet}
use Rattle.day_minute.specs.declared.Minute.{Minute}

-- the requests of the next instant that stand in a tape at a byte and on
abbrev pub batch_at : List ℕ → ℕ → Lent → Batch
batch_at tape at before = takes before.instant (lines (drop at tape)) (none_yet at)

-- the lines after them
abbrev pub rest_at : List ℕ → ℕ → Lent → Lines
rest_at tape at before = rest before.instant (lines (drop at tape)) 0

pub record MinuteOutcome (R : Rules) (tape : List ℕ) (at : ℕ) (before : Lent) (r : Minute) (after : Lent) : Type 0 where
  pub step : Outcome R (flat (batch_at tape at before).asked (batch_at tape at before).count) before r.verdict after
  pub next : r.next ≡ (batch_at tape at before).next
  pub roles : (r.enabled ≡ after.roles) × (r.enabled < 2 ^ 64)
  pub goes_on : lines (drop r.next tape) ≡ rest_at tape at before
