-- What the readers of a sheet and of a tape accept is a good input.
-- Assumes nothing.
use Rattle.std.specs.Prelude.{◌≡◌, List, ℕ, Ok}
use Rattle.text.specs.Lines.{lines}
use Rattle.tables.specs.declared.Counts.{Counts}
use Rattle.tables.specs.Lent.{rules}
use Rattle.line_readers.specs.Walks.{goes}
use Rattle.reader.specs.Out.{read_outcome}
use Rattle.reader.specs.Reading.{reading}
use Rattle.accepted.specs.Laws.Accepted.{reading_passes, reading_sizes}
use Rattle.tape_tests.specs.declared.Heard.{Heard}
use Rattle.tape.specs.Tape.{tape_read, unheard}
use Rattle.tape.specs.Laws.Fine.{accepted_fine}
use Rattle.day_run.specs.Run.{GoodInput}

-- a sheet that was read into the tables p and t, and a tape that was read after so many lines
pub good_input : (sheet p₀ t₀ : List ℕ) (counts : Counts) (p t : List ℕ) → reading sheet p₀ t₀ ≡ read_outcome (Ok counts) p t
    → (before : ℕ) (tape : List ℕ) (s : Heard) → tape_read counts.roles before tape ≡ goes s → GoodInput (rules counts p t) tape
good_input sheet p₀ t₀ counts p t e before tape s h =
    let sizes = reading_sizes sheet p₀ t₀ counts p t e in
    record {
      periodics = sizes.0;
      triggers = sizes.1;
      tables = reading_passes sheet p₀ t₀ counts p t e;
      tape_fine = accepted_fine counts.roles s (unheard before) (lines tape) h;
    }
