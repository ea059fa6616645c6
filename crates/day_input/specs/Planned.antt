-- What the code hands back of an input, and what its tables hold then: as the opening is defined, in the code's own records.
-- Assumes nothing.
use Rattle.std.specs.Prelude.{◌≡◌, cond, List, ℕ, leb, length, replicate, Err, Ok, Result}
use Rattle.answers.specs.declared.Name.TheVariants.{Length}
use Rattle.answers.specs.Answers.{refusal}
use Rattle.text.specs.Lines.{lines}
use Rattle.tables.specs.declared.Counts.{Counts}
use Rattle.tables.specs.Layout.{PERIODIC_TABLE, TRIGGER_TABLE}
use Rattle.tables.specs.Lent.{Tables, tables_of, rules, sheet_in}
use Rattle.line_readers.specs.Walks.{Going, goes, refused}
use Rattle.day_split.specs.Split.{sheet_bytes, sheet_lines, tape_part}
use Rattle.tape_tests.specs.declared.Heard.{Heard}
use Rattle.tape_tests.specs.Tests.{last_instant}
use Rattle.tape.specs.Tape.{tape_read, asks_in}
use Rattle.day_input.specs.declared.Plan.{Plan}
use Rattle.day_input.specs.Opening.{INPUT_BYTES, Opening, opens, sheet_reading}
use Rattle.answers.specs.declared.Refusal.{Refusal}

pub record Planned : Type 0 where
  pub answer : Result Plan Refusal
  pub tables : Tables

abbrev pub opened : Result Plan Refusal → List ℕ → List ℕ → Planned
opened r p t = record { answer = r; tables = tables_of p t }

-- the tables that are read into
abbrev pub Zeros : List ℕ → List ℕ → Type 0
Zeros p t = (p ≡ replicate PERIODIC_TABLE 0) × (t ≡ replicate TRIGGER_TABLE 0)

-- by what came of the tape
unfoldable pub by_heard : Counts → ℕ → Going Heard → Result Plan Refusal
by_heard counts from (goes s) = Ok (record { counts = counts; from = from; last = last_instant s })
by_heard counts from (refused x) = Err x

unfoldable pub by_tape : List ℕ → Counts → ℕ → ℕ → Result Plan Refusal
by_tape tape counts from before = by_heard counts from (tape_read counts.roles before tape)

-- by what came of the sheet
unfoldable pub by_sheet : List ℕ → Result Counts Refusal → Result Plan Refusal
by_sheet input (Ok counts) = by_tape (tape_part input) counts (sheet_bytes (lines input)) (sheet_lines (lines input))
by_sheet input (Err x) = Err x

unfoldable pub by_reading : List ℕ → Planned
by_reading input = record { answer = by_sheet input (sheet_reading input).answer; tables = (sheet_reading input).tables }

unfoldable pub planned : List ℕ → Planned
planned input =
    cond (leb (length input) INPUT_BYTES) (by_reading input)
    (opened (Err (refusal Length 0)) (replicate PERIODIC_TABLE 0) (replicate TRIGGER_TABLE 0))

-- the opening that a plan is, with what its tables hold and its tape
abbrev pub opening_of : Plan → List ℕ → List ℕ → List ℕ → Opening
opening_of plan p t tape = opens (sheet_in (rules plan.counts p t)) (asks_in (lines tape)) plan.last
