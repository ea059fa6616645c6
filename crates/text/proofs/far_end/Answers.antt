-- `text::far_end` meets its contract: the first 0A is as far on as the line is long.
-- Assumes nothing.
use Rattle.std.proofs.Common.{◌≡◌, ℕ, ◌+◌, drop, ap, ◌∙◌}
use Rattle.text.specs.Lines.{span}
use Rattle.text.proofs.Found.{span_found, rest_all}
use Rattle.text.proofs.far_end.Goals as goal

pub returns-in-Some : goal.returns-in-Some
returns-in-Some c =
    let from : c.in-Some.rest.now ≡ drop c.args.at c.args.text.now = c.in-Some.ensures.lookup.0.2 ∙ rest_all c.args.text.now c.args.at in
    ap (λ (n : ℕ). c.args.at + n) (c.unwrap_or.ensures ∙ span_found c.in-Some.rest.now c.memchr.result c.memchr.ensures ∙ ap span from)
