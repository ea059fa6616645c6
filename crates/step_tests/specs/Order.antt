-- The tests of a step that come before its tables: LENGTH, LAST, TOO MANY of requests (document 01, 'What comes back').
-- Assumes nothing.
use Rattle.std.specs.Prelude.{Bool, cond, ◌&&◌, ℕ, leb, eqb}
use Rattle.theory.specs.Numbers.{EVENTS, LAST_INSTANT, REQUESTS, WAITING_NUMBERS}
use Rattle.answers.specs.declared.Name.TheVariants.{Length, TooMany, Last}
use Rattle.answers.specs.Answers.{refuse, Verdict, pass}
use Rattle.tables.specs.Layout.{PERIODIC_TABLE, TRIGGER_TABLE}

-- the tables and the buffers have their exact lengths
unfoldable pub exact_lengths : ℕ → ℕ → ℕ → ℕ → Bool
exact_lengths periodics triggers waiting events =
    (eqb periodics PERIODIC_TABLE && eqb triggers TRIGGER_TABLE) && (eqb waiting WAITING_NUMBERS && eqb events EVENTS)

-- LENGTH, LAST, TOO MANY of requests
unfoldable pub judge_first : Bool → ℕ → ℕ → Verdict
judge_first fit t n = cond fit (cond (leb t LAST_INSTANT) (cond (leb n REQUESTS) pass (refuse TooMany 0)) (refuse Last 0)) (refuse Length 0)
