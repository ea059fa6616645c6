-- Laws of a tape's lines: what the code hands back as the definitions say it, each is one line more, and what passed had room.
-- Assumes nothing.
use Rattle.std.specs.Prelude.{◌≡◌, refl, true, false, List, ℕ, ◌+◌, ◌<◌, eqb, Err, Ok, Result}
use Rattle.std.proofs.Common.{sym, ap, ◌∙◌, ⊎_elim, eq-eqb, ltb-true}
use Rattle.theory.specs.Numbers.{REQUESTS}
use Rattle.theory.proofs.Laws.Tests.{test}
use Rattle.answers.specs.declared.Name.TheVariants.{Request}
use Rattle.answers.specs.declared.Refusal.{Refusal}
use Rattle.line_readers.specs.Order.{in_order}
use Rattle.line_readers.specs.Laws.Order.{each_passes}
use Rattle.line_readers.specs.Laws.Column.{located_pass}
use Rattle.text.specs.Framed.{framed}
use Rattle.frames.specs.Frame.{bytes_of}
use Rattle.line_readers.specs.Walks.{Going, goes, refused}
use Rattle.line_readers.specs.Laws.Walks.{verdict_goes}
use Rattle.kinds.specs.Kinds.{kind}
use Rattle.tape_frames.specs.Frame.{ASK, instant_of}
use Rattle.tape_tests.specs.declared.Heard.{Heard}
use Rattle.tape_tests.specs.Tests.{of_tape, room_for_request, in_time, ask_fits, tape_tests, INSTANT_BYTE, judge_tape}
use Rattle.tape.specs.Tape.{heard_after, tape_step}
use Rattle.tape.specs.Took.{took}
use Rattle.answers.specs.Answers.{pass}

-- ---- what comes back

pub went : (w : Result Heard Refusal) (x : Going Heard) (s : Heard) → took w ≡ x → w ≡ Ok s → goes s ≡ x
went w x s e h = sym (ap took h) ∙ e

pub stopped : (w : Result Heard Refusal) (x : Going Heard) (r : Refusal) → took w ≡ x → w ≡ Err r → refused r ≡ x
stopped w x r e h = sym (ap took h) ∙ e

-- ---- one line

-- what passed was framed, and passed each test of its frame
pub record Passed (roles : ℕ) (s : Heard) (l : List ℕ) : Type 0 where
  pub is_framed : framed l ≡ true
  pub of_tape : of_tape s (bytes_of l) ≡ true
  pub room : room_for_request s (bytes_of l) ≡ true
  pub in_time : in_time s (bytes_of l) ≡ true
  pub fit : ask_fits roles (bytes_of l) ≡ true

pub passes : (place roles : ℕ) (s : Heard) (l : List ℕ) → judge_tape place roles s l ≡ pass → Passed roles s l
unfolding judge_tape tape_tests
passes place roles s l e =
    let a = each_passes (tape_tests roles s l) Request place (located_pass l INSTANT_BYTE (in_order (tape_tests roles s l) Request place) e) in
    record { is_framed = a.framed; of_tape = a.kind; room = a.room; in_time = a.field; fit = a.last }

-- room for a request more of the same instant
pub room_says : (s : Heard) (f : List ℕ) → room_for_request s f ≡ true → kind f ≡ ASK → instant_of f ≡ s.instant → s.many < REQUESTS
unfolding room_for_request
room_says s f h k e = ltb-true s.many REQUESTS (rw (eq-eqb (kind f) ASK k, eq-eqb (instant_of f) s.instant e) at h)

-- one line more
after_line : (s : Heard) (f : List ℕ) → (heard_after s f).line ≡ s.line + 1
unfolding heard_after
after_line s f =
    ⊎_elim
    (λ (t : eqb (kind f) ASK ≡ true). rw t refl)
    (λ (t : eqb (kind f) ASK ≡ false). rw t refl)
    (test (eqb (kind f) ASK))

-- a line that goes on passed, and did what it does
pub took_line : (roles : ℕ) (s n : Heard) (l : List ℕ) → tape_step roles s l ≡ goes n → Passed roles s l × (heard_after s (bytes_of l) ≡ n)
unfolding tape_step
took_line roles s n l e =
    let v = verdict_goes (judge_tape (s.line + 1) roles s l) (heard_after s (bytes_of l)) n e in
    (passes (s.line + 1) roles s l v.0, v.1)

pub line_next : (roles : ℕ) (s n : Heard) (l : List ℕ) → tape_step roles s l ≡ goes n → n.line ≡ s.line + 1
line_next roles s n l e = sym (ap (λ (x : Heard). x.line) (took_line roles s n l e).1) ∙ after_line s (bytes_of l)
