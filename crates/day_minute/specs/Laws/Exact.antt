-- The contract of this crate's public function leaves one possible answer and one possible content of all that is lent.
-- Assumes nothing.
use Rattle.std.specs.Prelude.{◌≡◌, List, ℕ}
use Rattle.std.proofs.Common.{sym, ap, ◌∙◌}
use Rattle.theory.proofs.Laws.Exact.{exact}
use Rattle.tables.specs.Asked.{flat}
use Rattle.tables.specs.Lent.{Rules, Lent}
use Rattle.step.proofs.Laws.Exact.{step_exact}
use Rattle.day_minute.specs.declared.Minute.{Minute}
use Rattle.day_minute.specs.Minute.{batch_at, MinuteOutcome}

pub day_minute_exact : (R : Rules) (tape : List ℕ) (at : ℕ) (before : Lent) (r r' : Minute) (a a' : Lent) → MinuteOutcome R tape at before r a → MinuteOutcome R tape at before r' a' → (r ≡ r') × (a ≡ a')
day_minute_exact R tape at before r r' a a' x y =
    let s = step_exact R (flat (batch_at tape at before).asked (batch_at tape at before).count) before r.verdict r'.verdict a a' x.step y.step in
    let n : r.next ≡ r'.next = exact x.next y.next in
    let e : r.enabled ≡ r'.enabled = x.roles.0 ∙ (ap (λ (l : Lent). l.roles) s.1 ∙ sym y.roles.0) in
    ((λ i. record { verdict = s.0 i; next = n i; enabled = e i }), s.1)
