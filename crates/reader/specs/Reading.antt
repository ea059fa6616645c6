-- The whole reading: what comes back, and what the lent tables hold then.
-- Assumes nothing.
use Rattle.std.specs.Prelude.{Bool, cond, ◌&&◌, List, ℕ, leb, eqb, length, replicate, Err}
use Rattle.theory.specs.Numbers.{SHEET_BYTES}
use Rattle.answers.specs.declared.Name.TheVariants.{Length}
use Rattle.answers.specs.Answers.{refusal}
use Rattle.text.specs.Lines.{lines}
use Rattle.tables.specs.Layout.{PERIODIC_TABLE, TRIGGER_TABLE}
use Rattle.sheet_acts.specs.Acts.{Progress, progress}
use Rattle.line_readers.specs.Walks.{Going, goes, refused}
use Rattle.reader.specs.Lines.{reads, fresh}
use Rattle.reader.specs.Out.{ReadOutcome, read_outcome, after_lines}

-- the tables that are read into: all zero
abbrev pub start : Progress
start = progress fresh (replicate PERIODIC_TABLE 0) (replicate TRIGGER_TABLE 0)

-- a refusal leaves the lent tables p and t as they came; on success they hold the rows in sheet order and are otherwise zero
unfoldable pub by_lines : Going Progress → List ℕ → List ℕ → ReadOutcome
by_lines (refused r) p t = read_outcome (Err r) p t
by_lines (goes s) p t = after_lines s p t

-- passes LENGTH: the sheet is within its limit and the lent tables have their exact lengths
unfoldable pub sheet_lengths_fit : ℕ → ℕ → ℕ → Bool
sheet_lengths_fit sheet p t = leb sheet SHEET_BYTES && (eqb p PERIODIC_TABLE && eqb t TRIGGER_TABLE)

-- THE READING: of a sheet's bytes, with the lent tables as they came. (`ComesBack`, line_by_line/ComesBack, is the same in document 01's words: `reader_says`, claims/Demands.)
unfoldable pub reading : List ℕ → List ℕ → List ℕ → ReadOutcome
reading sheet p t =
    cond (sheet_lengths_fit (length sheet) (length p) (length t))
    (by_lines (reads (goes start) (lines sheet)) p t)
    (read_outcome (Err (refusal Length 0)) p t)
