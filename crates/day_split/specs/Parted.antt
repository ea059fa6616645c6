-- Where an input is parted, as the code says it: so many bytes and lines, and those of the sheet from there on.
-- Assumes nothing.
use Rattle.std.specs.Prelude.{ℕ, ◌+◌}
use Rattle.text.specs.Lines.{Lines}
use Rattle.day_split.specs.declared.Parts.{Parts}
use Rattle.day_split.specs.Split.{sheet_bytes, sheet_lines}

abbrev pub parted : ℕ → ℕ → Lines → Parts
parted bytes n ls = record { bytes = bytes + sheet_bytes ls; lines = n + sheet_lines ls }
