-- `line_readers::walk` meets its contract: by the laws of one turn, for the reader that it began with.
-- Assumes nothing.
use mathlib.Core.Path.{sym, ap, ◌∙◌}
use Rattle.std.specs.Prelude.{option_copied}
use Rattle.answers.specs.Answers.{Verdict}
use Rattle.answers.proofs.Laws.{handed_on}
use Rattle.text.specs.Laws.Lines.{first_line}
use Rattle.line_readers.specs.Walks.{by_verdict}
use Rattle.line_readers.specs.Laws.Walks.{walks_none, line_goes, line_stops, last_stops}
use native.Mathlib.Omega.{arith}
use borrow.Author.Rules.{rules}
use Rattle.line_readers.proofs.walk.Goals as goal

pub loop-line-preserved : goal.loop-line-preserved
unfolding by_verdict
loop-line-preserved g c =
    let i = c.loop-line.invariant in
    let is = sym (ap option_copied c.in-Some.is) ∙ c.line_at.ensures in
    let l = first_line c.args.text.now c.loop-line.at _ is in
    let w = sym (rw (c.in_ok-take.was, i.1) at c.take.ensures.taken) in
    let n = g.met.R.LineReader.one_more c.args.reader.now _ _ _ w in
    ((omega (arith, l.1), omega (arith, n, i.0.1)), c.take.ensures.same ∙ i.1, line_goes (g.R.LineReader.reader c.args.reader.now) c.args.text.now c.loop-line.at _ _ i.2 _ is _ w)

pub returns-in_err-take : goal.returns-in_err-take
unfolding by_verdict
returns-in_err-take g c =
    let i = c.loop-line.invariant in
    let is = sym (ap option_copied c.in-Some.is) ∙ c.line_at.ensures in
    let w = sym (rw (c.in_err-take.was, i.1) at c.take.ensures.taken) in
    ap (λ (v : Verdict). by_verdict v (g.R.LineReader.so_far c.take.new.self)) (handed_on _ _ c.from_residual.ensures.1)
    ∙ line_stops (g.R.LineReader.reader c.args.reader.now) c.args.text.now c.loop-line.at _ _ i.2 _ is _ w

pub returns-then-at-text : goal.returns-then-at-text
unfolding by_verdict
returns-then-at-text g c =
    let i = c.loop-line.invariant in
    rw (c.in_line.ensures, c.refusal_of-r.ensures, c.lines_read.ensures, i.1)
    (last_stops (g.R.LineReader.reader c.args.reader.now) c.args.text.now c.loop-line.at _ _ i.2 (sym (ap option_copied c.in_default.is) ∙ c.line_at.ensures) c.if-at-text.true)

pub returns : goal.returns
returns g c =
    let i = c.loop-line.invariant in
    (rw i.1 at c.at_end.ensures)
    ∙ (sym (walks_none (g.R.LineReader.reader c.args.reader.now) c.args.text.now c.loop-line.at (g.R.LineReader.so_far c.loop-line.reader) (search rules)) ∙ i.2)
