-- A line that goes on passed each test of its frame and did what it does, and is one line more. An `impl` of the code rests on it, so it stands here and not with the other laws.
-- Assumes nothing.
use Rattle.std.specs.Prelude.{◌≡◌, List, ℕ, ◌+◌}
use Rattle.std.proofs.Common.{sym, ap, ◌∙◌}
use Rattle.frames.specs.Frame.{bytes_of}
use Rattle.tables.specs.Layout.{byte_at}
use Rattle.kinds.specs.Kinds.{kind}
use Rattle.line_readers.specs.Walks.{goes}
use Rattle.line_readers.specs.Laws.Walks.{verdict_goes}
use Rattle.sheet_tests.specs.Judge.{judge_line}
use Rattle.sheet_tests.specs.Laws.{Passed, passes}
use Rattle.sheet_acts.specs.Acts.{Progress, after}
use Rattle.sheet_acts.specs.Laws.{seen_line}
use Rattle.reader.specs.Line.{line_step}

pub took_line : (s n : Progress) (l : List ℕ) → line_step s l ≡ goes n → Passed s.seen (bytes_of l) × (after s (bytes_of l) ≡ n)
unfolding line_step
took_line s n l e =
    let v = verdict_goes (judge_line (s.seen.line + 1) s.seen l) (after s (bytes_of l)) n e in
    (passes (s.seen.line + 1) s.seen l v.0, v.1)

pub line_next : (s n : Progress) (l : List ℕ) → line_step s l ≡ goes n → n.seen.line ≡ s.seen.line + 1
unfolding after
line_next s n l e = sym (ap (λ (x : Progress). x.seen.line) (took_line s n l e).1) ∙ seen_line (kind (bytes_of l)) (byte_at (bytes_of l) 2) s.seen
