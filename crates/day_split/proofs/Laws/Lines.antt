-- The lines of the two parts of an input, one after the other, are its lines; and how many the sheet has.
-- Assumes nothing.
use Rattle.std.specs.Prelude.{◌≡◌, refl, true, false, List, ◌∷◌, ◌++◌, ℕ, length}
use Rattle.std.proofs.Common.{sym, ap, ap₂, ◌∙◌, ⊎_elim, arith}
use Rattle.theory.proofs.Laws.Tests.{test}
use Rattle.text.specs.Lines.{Lines, none, endless, line, lines, all_lines}
use Rattle.day_split.specs.Split.{begins_end, up_to_end, after_end, line_count, sheet_lines, sheet_part, tape_part}
use Rattle.day_split.proofs.Laws.Parts.{sheet_lines_lem, tape_lines}

both : (ls : Lines) → all_lines (up_to_end ls) ++ all_lines (after_end ls) ≡ all_lines ls
unfolding up_to_end after_end
both none = refl
both (endless l) = refl
both (line l ls) =
    ⊎_elim
    (λ (t : begins_end l ≡ true). rw t refl)
    (λ (t : begins_end l ≡ false). rw t (ap (λ (x : List (List ℕ)). l ∷ x) (both ls)))
    (test (begins_end l))

count_lines : (ls : Lines) → line_count ls ≡ length (all_lines ls)
unfolding line_count
count_lines none = refl
count_lines (endless l) = refl
count_lines (line l ls) = omega (arith, count_lines ls)

pub both_lines_lem : (input : List ℕ) → all_lines (lines (sheet_part input)) ++ all_lines (lines (tape_part input)) ≡ all_lines (lines input)
both_lines_lem input = ap₂ (λ (a b : Lines). all_lines a ++ all_lines b) (sheet_lines_lem input) (tape_lines input) ∙ both (lines input)

pub sheet_count : (input : List ℕ) → sheet_lines (lines input) ≡ length (all_lines (lines (sheet_part input)))
sheet_count input = count_lines (up_to_end (lines input)) ∙ ap (λ (ls : Lines). length (all_lines ls)) (sym (sheet_lines_lem input))
