-- What came of lines, given as an answer beside two tables, as the definitions say it: each answer by itself.
-- Assumes nothing.
use Rattle.std.specs.Prelude.{◌≡◌, List, ℕ, Err, Ok, Result}
use Rattle.std.proofs.Common.{sym, ap, ◌∙◌}
use Rattle.answers.specs.declared.Refusal.{Refusal}
use Rattle.sheet_tests.specs.declared.Seen.{Seen}
use Rattle.sheet_acts.specs.Acts.{Progress, progress}
use Rattle.line_readers.specs.Walks.{Going, goes, refused}
use Rattle.reader.specs.Took.{took}

-- what the lines made, by what came back
pub went : (w : Result Seen Refusal) (p t : List ℕ) (x : Going Progress) (s : Seen) → took w p t ≡ x → w ≡ Ok s → goes (progress s p t) ≡ x
went w p t x s e h = sym (ap (λ (v : Result Seen Refusal). took v p t) h) ∙ e

pub stopped : (w : Result Seen Refusal) (p t : List ℕ) (x : Going Progress) (r : Refusal) → took w p t ≡ x → w ≡ Err r → refused r ≡ x
stopped w p t x r e h = sym (ap (λ (v : Result Seen Refusal). took v p t) h) ∙ e
