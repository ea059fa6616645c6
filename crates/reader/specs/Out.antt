-- What comes back of reading, and what the lent tables hold then: after the last line LOOP is tested, and what passed is handed out.
-- Assumes nothing.
use Rattle.std.specs.Prelude.{cond, List, ℕ, ltb, Err, Ok, Result}
use Rattle.theory.specs.Sheet.{Sheet}
use Rattle.theory.specs.LoopTest.{PAIRS, loop_place}
use Rattle.answers.specs.declared.Name.TheVariants.{Loop}
use Rattle.answers.specs.Answers.{refusal}
use Rattle.tables.specs.Lent.{Tables, tables_of, sheet_in}
use Rattle.sheet_acts.specs.Acts.{Progress}
use Rattle.answers.specs.declared.Refusal.{Refusal}
use Rattle.tables.specs.declared.Counts.{Counts}

-- all that reading can change
pub record ReadOutcome : Type 0 where
  pub answer : Result Counts Refusal
  pub tables : Tables

abbrev pub read_outcome : Result Counts Refusal → List ℕ → List ℕ → ReadOutcome
read_outcome a p t = record { answer = a; tables = tables_of p t }

-- the sheet that was read
abbrev pub sheet_read : Progress → Sheet
sheet_read s = sheet_in (record { counts = s.seen.counts; tables = s.tables })

-- after the last line LOOP is tested: at this place, or nowhere
unfoldable pub out_by_loop : ℕ → Progress → List ℕ → List ℕ → ReadOutcome
out_by_loop k s p t =
    cond (ltb k PAIRS)
    (read_outcome (Err (refusal Loop k)) p t)
    (record { answer = Ok s.seen.counts; tables = s.tables })

-- by the place that the loop test finds in the sheet that was read
abbrev pub after_lines : Progress → List ℕ → List ℕ → ReadOutcome
after_lines s p t = out_by_loop (loop_place (sheet_read s)) s p t
