-- The contract of the entry leaves one possible answer and one possible content of all that is lent.
-- Assumes nothing.
use Rattle.std.specs.Prelude.{◌≡◌, List}
use Rattle.tables.specs.Lent.{Rules, Lent}
use Rattle.requests.specs.declared.Request.{Request}
use Rattle.step.specs.Outcome.{Outcome}
use Rattle.step.proofs.Laws.Exact.{step_exact}
use Rattle.entry.specs.Listed.{listed}
use Rattle.answers.specs.Answers.{Verdict}

pub step_requests_exact : (R : Rules) (rs : List Request) (before : Lent) (v v' : Verdict) (a a' : Lent) → Outcome R (listed rs) before v a → Outcome R (listed rs) before v' a' → (v ≡ v') × (a ≡ a')
step_requests_exact R rs = step_exact R (listed rs)
