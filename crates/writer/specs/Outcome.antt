-- What the writer gives: document 02, [1]. Lent tables become a sheet again, header, periodic rows, triggers and end frame in table order; refusals are as in a step, without LAST and REQUEST.
-- Assumes nothing.
use Rattle.std.specs.Prelude.{◌≡◌, Bool, cond, ◌&&◌, List, [], ◌∷◌, ◌++◌, ℕ, ◌<◌, eqb, length, get_or, drop, Err, Ok, Result}
use Rattle.theory.specs.Numbers.{SHEET_BYTES}
use Rattle.answers.specs.declared.Name.TheVariants.{Length}
use Rattle.answers.specs.declared.Refusal.{Refusal}
use Rattle.answers.specs.Answers.{refuse, verdict_of, Verdict}
use Rattle.tables.specs.Layout.{PERIODIC_TABLE, TRIGGER_TABLE}
use Rattle.tables.specs.Lent.{Rules, sheet_in}
use Rattle.table_judge.specs.Judge.{judge_tables}
use Rattle.line_by_line.specs.Lines.{joined}
use Rattle.writer.specs.RowLines.{HeaderLine, PeriodicLine, TriggerLine, EndLine}

-- ---- what is written

-- THE LINES that are written of lent tables: the header, a line for each used row of the periodic table and then of the trigger table, in table order, and the end.
pub record Writes (R : Rules) (ls : List (List ℕ)) : Type 0 where
  pub header : List ℕ
  pub periodics : List (List ℕ)
  pub triggers : List (List ℕ)
  pub end : List ℕ
  pub lines : ls ≡ header ∷ (periodics ++ (triggers ++ end ∷ []))
  pub is_header : HeaderLine R.counts.roles header
  pub periodic_count : length periodics ≡ R.counts.periodics
  pub each_periodic : (i : ℕ) → i < R.counts.periodics → PeriodicLine R.tables.periodics i (get_or periodics i [])
  pub trigger_count : length triggers ≡ R.counts.triggers
  pub each_trigger : (i : ℕ) → i < R.counts.triggers → TriggerLine R.tables.triggers i (get_or triggers i [])
  pub is_end : EndLine R.counts.periodics R.counts.triggers end

-- ---- what comes back

-- passes LENGTH: both tables and the output buffer have their exact lengths
unfoldable pub write_lengths_fit : ℕ → ℕ → ℕ → Bool
write_lengths_fit p t out = eqb p PERIODIC_TABLE && (eqb t TRIGGER_TABLE && eqb out SHEET_BYTES)

-- THE VERDICT: LENGTH, then the judge of the tables, TOO MANY, FIELD, LOOP
unfoldable pub judge_writing : Rules → ℕ → Verdict
judge_writing R out = cond (write_lengths_fit (length R.tables.periodics) (length R.tables.triggers) out) (judge_tables (sheet_in R)) (refuse Length 0)

-- On OK the sheet stands at the front of the buffer, in n bytes, and what lies past them stays.
pub record AtFront (R : Rules) (out : List ℕ) (n : ℕ) (out' : List ℕ) : Type 0 where
  pub sent : List (List ℕ)
  pub writes : Writes R sent
  pub size : n ≡ length (joined sent)
  pub buffer : out' ≡ joined sent ++ drop (length (joined sent)) out

-- THE OUTCOME of writing lent tables into the lent buffer `out`, which is `out'` then: Ok has the number of written bytes, and after a refusal the buffer is as it came. (The tables are lent to be read only.
-- There is no answer for want of room: no written sheet has more than 12,692 bytes, `writer_fits`, claims/Demands.)
pub record WriteOutcome (R : Rules) (out : List ℕ) (r : Result ℕ Refusal) (out' : List ℕ) : Type 0 where
  pub verdict : verdict_of r ≡ judge_writing R (length out)
  pub passed : (n : ℕ) → r ≡ Ok n → AtFront R out n out'
  pub refused : (x : Refusal) → r ≡ Err x → out' ≡ out
