-- What a line that passes has: a frame of a kind that may stand here, with room for its row and fields within their limits. And where the column of a refused one lies.
-- Assumes nothing.
use Rattle.std.specs.Prelude.{◌≡◌, refl, true, List, ℕ, Err}
use Rattle.std.proofs.Common.{arith}
use Rattle.theory.proofs.Laws.Tests.{and_left, and_right}
use Rattle.answers.specs.declared.Name.TheVariants.{Count}
use Rattle.answers.specs.declared.Refusal.{Refusal}
use Rattle.line_readers.specs.Says.{InLine}
use Rattle.line_readers.specs.Order.{in_order}
use Rattle.line_readers.specs.Laws.Order.{each_passes}
use Rattle.line_readers.specs.Laws.Column.{located_pass, judged_within}
use Rattle.frames.specs.Frame.{bytes_of}
use Rattle.kinds.specs.Kinds.{kind, sized, may_stand}
use Rattle.row_counts.specs.Counts.{room_for}
use Rattle.frames.specs.Laws.Frame.{length_bytes}
use Rattle.fields.specs.Fields.{frame_fits, FieldColumn}
use Rattle.fields.specs.Laws.{field_column, bad_within}
use Rattle.sheet_tests.specs.declared.Seen.{Seen}
use Rattle.sheet_tests.specs.Judge.{line_tests, line_field, judge_line}
use Rattle.answers.specs.Answers.{pass}

pub record Passed (s : Seen) (f : List ℕ) : Type 0 where
  pub stands : may_stand s.stage (kind f) ≡ true
  pub room : room_for (kind f) s.counts.periodics s.counts.triggers ≡ true
  pub fit : frame_fits (kind f) s.counts.roles f ≡ true

pub passes : (place : ℕ) (s : Seen) (l : List ℕ) → judge_line place s l ≡ pass → Passed s (bytes_of l)
unfolding judge_line line_tests
passes place s l e =
    let f : List ℕ = bytes_of l in
    let a = each_passes (line_tests s l) Count place (located_pass l (line_field s l) (in_order (line_tests s l) Count place) e) in
    record { stands = and_right (sized f) (may_stand s.stage (kind f)) a.kind; room = a.room; fit = a.field }

-- the column of a refusal says what document 02 says, and lies in the line or one past its end
pub judged_in_line : (place : ℕ) (s : Seen) (l : List ℕ) (r : Refusal) → judge_line place s l ≡ Err r → InLine (FieldColumn s.counts.roles (bytes_of l)) l place r
unfolding judge_line line_tests
judged_in_line place s l r e =
    let f : List ℕ = bytes_of l in
    let n : ℕ = s.counts.roles in
    judged_within (FieldColumn n f) l (line_field s l) (line_tests s l) Count place refl (omega arith) (λ a. a)
    (λ a k d. (field_column n f d, omega (arith, length_bytes l, bad_within n f d (and_left (sized f) (may_stand s.stage (kind f)) k))))
    r e
