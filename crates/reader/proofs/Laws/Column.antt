-- The column of a sheet's refusal: it is at one of the sheet's lines, or at the one after the last. (What it says of a field: line_by_line/Laws/Columns.)
-- Assumes nothing.
use Rattle.std.specs.Prelude.{◌≡◌, ◌⊎◌, List, ℕ, ◌+◌, length}
use Rattle.std.proofs.Common.{sym, ap, ◌∙◌, inl, inr, ⊎_elim, arith}
use Rattle.answers.specs.declared.Name.TheVariants.{Kind}
use Rattle.answers.specs.declared.Refusal.{Refusal}
use Rattle.answers.specs.Answers.{refusal}
use Rattle.text.specs.Lines.{lines, all_lines}
use Rattle.frames.specs.Frame.{bytes_of}
use Rattle.line_readers.specs.Says.{InLine, FaultyAt}
use Rattle.line_readers.specs.Walks.{goes, refused}
use Rattle.line_readers.specs.Laws.Walks.{no_goes, verdict_stops, same_refusal}
use Rattle.line_readers.specs.Laws.Column.{any_field, faulty_at}
use Rattle.kinds.specs.declared.Stage.{Stage}
use Rattle.kinds.specs.declared.Stage.TheVariants.{Start, Rows, Ended}
use Rattle.sheet_tests.specs.Judge.{judge_line}
use Rattle.sheet_tests.specs.Laws.{judged_in_line}
use Rattle.sheet_acts.specs.Acts.{Progress, after}
use Rattle.reader.specs.Line.{line_step}
use Rattle.reader.specs.Lines.{at_end, sheet_reader, reads}
use Rattle.reader.specs.Laws.OneMore.{line_next}
use Rattle.reader.specs.Reading.{start}

line_says : (s : Progress) (l : List ℕ) (r : Refusal) → line_step s l ≡ refused r → InLine (λ k. Unit {0}) l (s.seen.line + 1) r
unfolding line_step
line_says s l r e =
    any_field l (s.seen.line + 1) r
    (judged_in_line (s.seen.line + 1) s.seen l r (verdict_stops (judge_line (s.seen.line + 1) s.seen l) (after s (bytes_of l)) r e))

-- after the last line it is KIND
end_says : (g : Stage) (s : Progress) (r : Refusal) → at_end g s ≡ refused r → r ≡ refusal Kind (s.seen.line + 1)
unfolding at_end
end_says Start s r e = sym (same_refusal e)
end_says Rows s r e = sym (same_refusal e)
end_says Ended s r e = no_goes r s (sym e)

-- THE LAW: a refusal is at a line, or at the one after the last, where the end is missing
pub sheet_faulty : (sheet : List ℕ) (r : Refusal) → reads (goes start) (lines sheet) ≡ refused r
    → FaultyAt (λ k. Unit {0}) (all_lines (lines sheet)) 0 r ⊎ (r ≡ refusal Kind (length (all_lines (lines sheet)) + 1))
sheet_faulty sheet r e =
    ⊎_elim
    (λ (x : FaultyAt (λ k. Unit {0}) (all_lines (lines sheet)) 0 r). inl x)
    (λ (x : (n : Progress) × (at_end n.seen.stage n ≡ refused r) × (n.seen.line ≡ 0 + length (all_lines (lines sheet)))).
    let k : x.0.seen.line ≡ length (all_lines (lines sheet)) = omega (arith, x.2) in
    inr (end_says x.0.seen.stage x.0 r x.1 ∙ ap (λ (m : ℕ). refusal Kind (m + 1)) k))
    (faulty_at sheet_reader (λ k. Unit {0}) line_says line_next start (lines sheet) r e)
