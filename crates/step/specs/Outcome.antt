-- A step: which refusal it gives, in document 01's order, or what it makes of the state and of the events buffer ('What comes back', 'One instant').
-- Assumes nothing.
use Rattle.std.specs.Prelude.{◌≡◌, Bool, cond, leb, length, Err}
use Rattle.theory.specs.Numbers.{EVENTS, LAST_INSTANT, REQUESTS, WAITING_NUMBERS}
use Rattle.theory.specs.Box.{Step}
use Rattle.answers.specs.declared.Name.TheVariants.{Length, TooMany, Last}
use Rattle.answers.specs.declared.Refusal.{Refusal}
use Rattle.answers.specs.Answers.{refuse, and_then, Verdict, pass}
use Rattle.tables.specs.Buffers.{events_of}
use Rattle.tables.specs.Asked.{Asked, asks}
use Rattle.tables.specs.Lent.{Rules, sheet_in, Lent, state_in}
use Rattle.table_judge.specs.Judge.{judge_tables}
use Rattle.requests.specs.Requests.{judge_requests}
use Rattle.step_tests.specs.Order.{exact_lengths}

-- ---- the refusals

-- passes LENGTH: the tables and the buffers have their exact lengths
unfoldable pub lengths_fit : Rules → Lent → Bool
lengths_fit R l = exact_lengths (length R.tables.periodics) (length R.tables.triggers) (length l.waiting) (length l.events)

-- THE VERDICT: LENGTH, LAST, TOO MANY (of requests and of rows), FIELD, LOOP, REQUEST in order
unfoldable pub judge_step : Rules → Asked → Lent → Verdict
judge_step R q l =
    cond (lengths_fit R l)
    (cond (leb l.instant LAST_INSTANT)
    (cond (leb q.count REQUESTS)
    (and_then (judge_tables (sheet_in R)) (judge_requests R.counts.roles q))
    (refuse TooMany 0))
    (refuse Last 0))
    (refuse Length 0)

-- ---- the outcome

-- A step of the box on what was lent: the events buffer holds all of the solution, and both buffers keep their lengths.
pub record Stepped (R : Rules) (q : Asked) (before after : Lent) : Type 0 where
  pub step : Step (sheet_in R) (asks q) (state_in before) (events_of after.events) (state_in after)
  pub waiting_size : length after.waiting ≡ WAITING_NUMBERS
  pub events_size : length after.events ≡ EVENTS

-- THE OUTCOME: the verdict; after a refusal all is what it was, and else a step was made.
pub record Outcome (R : Rules) (q : Asked) (before : Lent) (v : Verdict) (after : Lent) : Type 0 where
  pub judged : v ≡ judge_step R q before
  pub refused : (r : Refusal) → v ≡ Err r → after ≡ before
  pub passed : v ≡ pass → Stepped R q before after
