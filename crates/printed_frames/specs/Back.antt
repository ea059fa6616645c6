-- What a refusal's line says when it is read: document 02, [2], 'E0 gets four column bytes after the place'.
-- Assumes nothing.
use Rattle.std.specs.Prelude.{◌≡◌, true, List, ℕ, length}
use Rattle.answers.specs.declared.Refusal.{Refusal}
use Rattle.answers.specs.Answers.{number_of}
use Rattle.tables.specs.Layout.{byte_at, four}
use Rattle.text.specs.Framed.{framed}
use Rattle.frames.specs.Frame.{bytes_of, checked}

-- THE LINE l reads back as r: it passes FRAME and CHECK, and its 11 bytes are E0, the number 1, the place 4, the column 4 and the check
pub record ReadsBack (l : List ℕ) (r : Refusal) : Type 0 where
  pub is_framed : framed l ≡ true
  pub is_checked : checked (bytes_of l) ≡ true
  pub size : length (bytes_of l) ≡ 11
  pub kind : byte_at (bytes_of l) 0 ≡ 0xe0
  pub number : byte_at (bytes_of l) 1 ≡ number_of r.name
  pub place : four (bytes_of l) 2 ≡ r.place
  pub column : four (bytes_of l) 6 ≡ r.column
