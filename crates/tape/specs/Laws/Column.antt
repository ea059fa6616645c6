-- The column of a tape's refusal: what it says, and that it is at one of the tape's lines or at the one after the last.
-- Assumes nothing.
use Rattle.std.specs.Prelude.{◌≡◌, refl, ◌⊎◌, Bool, true, false, cond, List, ℕ, ◌+◌, length, Err, is_some}
use Rattle.std.proofs.Common.{sym, ap, ◌∙◌, inl, inr, ⊎_elim, arith}
use Rattle.answers.specs.declared.Name.TheVariants.{Kind, Request}
use Rattle.answers.specs.declared.Refusal.{Refusal}
use Rattle.answers.specs.Answers.{refusal}
use Rattle.text.specs.Lines.{lines, all_lines}
use Rattle.frames.specs.Frame.{bytes_of}
use Rattle.line_readers.specs.Says.{InLine, FaultyAt}
use Rattle.line_readers.specs.Walks.{goes, refused}
use Rattle.line_readers.specs.Laws.Walks.{no_goes, verdict_stops, same_refusal}
use Rattle.line_readers.specs.Laws.Column.{framed_two, judged_within, faulty_at}
use Rattle.tape_tests.specs.declared.Heard.{Heard}
use Rattle.tape_tests.specs.Tests.{tape_tests, INSTANT_BYTE, judge_tape}
use Rattle.tape.specs.Tape.{heard_after, tape_step, tape_ends, tape_reader, unheard, tape_read}
use Rattle.tape.specs.Laws.Line.{line_next}

-- FIELD is of the instant, whose first digit is the third character
abbrev pub AtInstant : ℕ → Type 0
AtInstant k = k ≡ 3

judged_in_line : (place roles : ℕ) (s : Heard) (l : List ℕ) (r : Refusal) → judge_tape place roles s l ≡ Err r → InLine AtInstant l place r
unfolding judge_tape tape_tests
judged_in_line place roles s l r e =
    judged_within AtInstant l INSTANT_BYTE (tape_tests roles s l) Request place refl (omega arith) (λ a. a)
    (λ a k d. (refl, omega (arith, framed_two l a))) r e

line_says : (roles : ℕ) (s : Heard) (l : List ℕ) (r : Refusal) → tape_step roles s l ≡ refused r → InLine AtInstant l (s.line + 1) r
unfolding tape_step
line_says roles s l r e = judged_in_line (s.line + 1) roles s l r (verdict_stops (judge_tape (s.line + 1) roles s l) (heard_after s (bytes_of l)) r e)

-- after the last line it is KIND
end_says : (s : Heard) (r : Refusal) → tape_ends s ≡ refused r → r ≡ refusal Kind (s.line + 1)
unfolding tape_ends
end_says s r e = by_ended (is_some s.end) e
  where
    by_ended : (b : Bool) → cond b (goes s) (refused (refusal Kind (s.line + 1))) ≡ refused r → r ≡ refusal Kind (s.line + 1)
    by_ended true h = no_goes r s (sym h)
    by_ended false h = sym (same_refusal h)

-- THE LAW: a refusal is at a line, or at the one after the last, where the end is missing
pub tape_faulty : (roles before : ℕ) (tape : List ℕ) (r : Refusal) → tape_read roles before tape ≡ refused r
    → FaultyAt AtInstant (all_lines (lines tape)) before r ⊎ (r ≡ refusal Kind (before + length (all_lines (lines tape)) + 1))
tape_faulty roles before tape r e =
    ⊎_elim
    (λ (x : FaultyAt AtInstant (all_lines (lines tape)) before r). inl x)
    (λ (x : (n : Heard) × (tape_ends n ≡ refused r) × (n.line ≡ before + length (all_lines (lines tape)))).
    inr (end_says x.0 r x.1 ∙ ap (λ (k : ℕ). refusal Kind (k + 1)) x.2))
    (faulty_at (tape_reader roles) AtInstant (line_says roles) (line_next roles) (unheard before) (lines tape) r e)
