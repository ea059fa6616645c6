-- `faulty_line::seek` meets its contract. The loop's invariant: the line that is looked for is, from the cursor on, that with `left` lines before it. The measure is what is left of the text.
-- Assumes nothing.
use Rattle.std.proofs.Common.{◌≡◌, refl, ℕ, suc, ◌+◌, ◌-◌, length, drop, ap, ◌∙◌, arith, rules, length-drop}
use Rattle.text.specs.Laws.Lines.{first_line, last_line}
use Rattle.std.specs.Prelude.{Ok}
use Rattle.faulty_line.proofs.seek.Goals as goal

pub loop-line-init : goal.loop-line-init
loop-line-init c =
    (search rules, refl)

pub returns-then-left-eq0 : goal.returns-then-left-eq0
returns-then-left-eq0 c =
    let f = first_line c.args.text.now c.loop-line.at c.in-Some.line.now c.in-Some.ensures in
    rw (f.0, c.if-left-eq0.true) at c.loop-line.invariant.1

pub loop-line-smaller : goal.loop-line-smaller
loop-line-smaller c =
    let f = first_line c.args.text.now c.loop-line.at c.in-Some.line.now c.in-Some.ensures in
    omega (arith, f.1)

pub loop-line-preserved : goal.loop-line-preserved
loop-line-preserved c =
    let f = first_line c.args.text.now c.loop-line.at c.in-Some.line.now c.in-Some.ensures in
    let n : c.loop-line.left ≡ suc (c.loop-line.left - 1) = omega (arith, c.if-left-eq0.false) in
    (omega (arith, f.1), rw (f.0, n) at c.loop-line.invariant.1)

pub returns-then-left-eq0-2 : goal.returns-then-left-eq0-2
returns-then-left-eq0-2 c =
    let t = c.args.text.now in
    let e = last_line t c.loop-line.at c.in_default.ensures c.if-at-text.true in
    let to : length t ≡ c.loop-line.at + length (drop c.loop-line.at t) = omega (arith, length-drop c.loop-line.at t) in
    ap (λ (n : ℕ). Ok (record { from = c.loop-line.at; to = n })) to ∙ (rw (e, c.if-left-eq0-2.true) at c.loop-line.invariant.1)

pub returns-then-at-text : goal.returns-then-at-text
returns-then-at-text c =
    let e = last_line c.args.text.now c.loop-line.at c.in_default.ensures c.if-at-text.true in
    let n : c.loop-line.left ≡ suc (c.loop-line.left - 1) = omega (arith, c.if-left-eq0-2.false) in
    rw (e, n) at c.loop-line.invariant.1
