-- A step that passed LENGTH, LAST and TOO MANY of requests.
-- Assumes nothing.
use Rattle.std.specs.Prelude.{◌≡◌, List, ℕ, length, Err}
use Rattle.theory.specs.Numbers.{EVENTS, WAITING_NUMBERS}
use Rattle.theory.specs.Sheet.{GoodOrder}
use Rattle.theory.specs.Graph.{Levels}
use Rattle.answers.specs.declared.Refusal.{Refusal}
use Rattle.answers.specs.Answers.{and_then, Verdict, pass}
use Rattle.tables.specs.Layout.{byte_at}
use Rattle.tables.specs.Asked.{Asked}
use Rattle.tables.specs.Lent.{Rules, sheet_in, Lent}
use Rattle.table_judge.specs.Judge.{judge_tables}
use Rattle.requests.specs.Requests.{judge_requests, AllFit}
use Rattle.step.specs.Outcome.{Stepped}

-- both buffers have their lengths
abbrev pub Sized : List ℕ → List ℕ → Type 0
Sized waiting events = (length waiting ≡ WAITING_NUMBERS) × (length events ≡ EVENTS)

-- nothing is refused: the rows are in good order, the levels meet the rule, and the requests are within their limits
pub record Sound (R : Rules) (levels : List ℕ) (q : Asked) : Type 0 where
  pub good : GoodOrder (sheet_in R)
  pub rule : Levels (sheet_in R) (byte_at levels)
  pub fit : AllFit R.counts.roles q

-- the outcome, with the tests that are left
pub record Inner (R : Rules) (q : Asked) (before : Lent) (v : Verdict) (after : Lent) : Type 0 where
  pub judged : v ≡ and_then (judge_tables (sheet_in R)) (judge_requests R.counts.roles q)
  pub refused : (r : Refusal) → v ≡ Err r → after ≡ before
  pub passed : v ≡ pass → Stepped R q before after
