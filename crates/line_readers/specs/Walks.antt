-- The lines of a text in order, for any reader of them: what each line makes of what was read so far.
-- Assumes nothing.
use Rattle.std.specs.Prelude.{List, ℕ, ◌+◌, Err, Ok}
use Rattle.answers.specs.declared.Name.TheVariants.{Frame}
use Rattle.answers.specs.declared.Refusal.{Refusal}
use Rattle.answers.specs.Answers.{refusal, Verdict}
use Rattle.text.specs.Lines.{Lines, none, endless, line}
use Rattle.line_readers.specs.Column.{in_line}

-- reading goes on with what was read so far, or is refused
pub data Going (A : Type 0) : Type 0 where
  goes : A → Going A
  refused : Refusal → Going A

-- by the verdict on a line: where it passes, reading goes on with what it made
unfoldable pub by_verdict : {A : Type 0} → Verdict → A → Going A
by_verdict (Ok tt) made = goes made
by_verdict (Err r) made = refused r

-- A reader: how many lines were read so far, what one line more makes of that, and what is left after the last line.
pub record Reader (A : Type 0) : Type 0 where
  pub read : A → ℕ
  pub takes : A → List ℕ → Going A
  pub ends : A → Going A

-- what comes of the lines from here on; a line with no final 0A is FRAME, whose column no field decides
unfoldable pub walks : {A : Type 0} → Reader A → Going A → Lines → Going A
walks R (refused r) none = refused r
walks R (refused r) (endless l) = refused r
walks R (refused r) (line l ls) = refused r
walks R (goes s) none = R.ends s
walks R (goes s) (endless l) = refused (in_line l 0 (refusal Frame (R.read s + 1)))
walks R (goes s) (line l ls) = walks R (R.takes s l) ls
