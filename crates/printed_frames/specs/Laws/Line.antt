-- A refusal's line fills a buffer of its length.
-- Assumes nothing.
use Rattle.std.specs.Prelude.{◌≡◌, List, ℕ, length}
use Rattle.std.proofs.Common.{ap, ◌∙◌, arith}
use Rattle.std.proofs.Math.Seq.{paste}
use Rattle.answers.specs.declared.Refusal.{Refusal}
use Rattle.answers.specs.Answers.{number_of}
use Rattle.tables.proofs.Laws.{paste_all}
use Rattle.prints.specs.Print.{line_of}
use Rattle.prints.specs.Laws.Lengths.{length_line}
use Rattle.printed_frames.specs.Frames.{refusal_frame, refusal_line}
use Rattle.printed_frames.specs.Laws.Lengths.{length_refusal}

-- E0, number, place, column, check and the line end: 23 bytes
pub line_all : (r : Refusal) (d f : List ℕ) → length d ≡ 23 → f ≡ refusal_frame (number_of r.name) r.place r.column → paste d 0 (line_of f) (length (line_of f)) ≡ refusal_line r
unfolding refusal_line
line_all r d f l e =
    let g : List ℕ = refusal_frame (number_of r.name) r.place r.column in
    ap (λ (x : List ℕ). paste d 0 (line_of x) (length (line_of x))) e
    ∙ paste_all d (line_of g) (omega (arith, l, length_line g, length_refusal (number_of r.name) r.place r.column))
