-- The whole input of a day, tested before the first instant: LENGTH, then the whole sheet, LOOP included, then the tape (document 01, 'The day program').
-- Assumes nothing.
use Rattle.std.specs.Prelude.{cond, List, ℕ, leb, length, replicate, Err, Ok, Result}
use Rattle.theory.specs.Sheet.{Sheet}
use Rattle.theory.specs.Model.{Stream}
use Rattle.answers.specs.declared.Name.TheVariants.{Length}
use Rattle.answers.specs.declared.Refusal.{Refusal}
use Rattle.answers.specs.Answers.{refusal}
use Rattle.text.specs.Lines.{Lines, lines}
use Rattle.tables.specs.Layout.{PERIODIC_TABLE, TRIGGER_TABLE}
use Rattle.tables.specs.Lent.{Tables, sheet_in}
use Rattle.line_readers.specs.Walks as walk
use Rattle.line_readers.specs.Walks.{Going, goes}
use Rattle.reader.specs.Out.{ReadOutcome}
use Rattle.reader.specs.Reading.{reading}
use Rattle.day_split.specs.Split.{sheet_part, tape_part, sheet_lines}
use Rattle.tape_tests.specs.declared.Heard.{Heard}
use Rattle.tape_tests.specs.Tests.{last_instant}
use Rattle.tape.specs.Tape.{tape_read, asks_in}
use Rattle.tables.specs.declared.Counts.{Counts}

-- the most bytes of an input
abbrev pub INPUT_BYTES : ℕ
INPUT_BYTES = 65536

-- What an input opens: nothing is refused, and there are a sheet, the requests of each instant and the last instant; or the refusal.
pub data Opening : Type 0 where
  opens : Sheet → Stream → ℕ → Opening
  refused : Refusal → Opening

-- by what came of the tape, whose lines these are
unfoldable pub after_tape : Sheet → Lines → Going Heard → Opening
after_tape sh ls (goes s) = opens sh (asks_in ls) (last_instant s)
after_tape sh ls (walk.refused r) = refused r

-- by what came of the sheet, and the tables that it was read into
unfoldable pub after_sheet : List ℕ → Result Counts Refusal → Tables → Opening
after_sheet input (Ok counts) tables =
    after_tape (sheet_in (record { counts = counts; tables = tables })) (lines (tape_part input))
    (tape_read counts.roles (sheet_lines (lines input)) (tape_part input))
after_sheet input (Err r) tables = refused r

-- the reading of its sheet, into tables of zeros
abbrev pub sheet_reading : List ℕ → ReadOutcome
sheet_reading input = reading (sheet_part input) (replicate PERIODIC_TABLE 0) (replicate TRIGGER_TABLE 0)

-- THE OPENING
unfoldable pub opening : List ℕ → Opening
opening input =
    cond (leb (length input) INPUT_BYTES) (after_sheet input (sheet_reading input).answer (sheet_reading input).tables) (refused (refusal Length 0))
