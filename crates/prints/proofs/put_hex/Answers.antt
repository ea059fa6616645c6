-- `prints::put_hex` meets its contract. The loop's invariant: the digits of the first j bytes are pasted.
-- Assumes nothing.
use Rattle.std.proofs.Common.{refl, [], ◌∙◌, rules}
use Rattle.std.proofs.Math.Seq.{paste-zero}
use Rattle.prints.specs.Laws.Pasted.{hex_more, hex_end}
use Rattle.prints.proofs.put_hex.Goals as goal

pub loop-j-init : goal.loop-j-init
loop-j-init c =
    (refl, paste-zero c.args.out.now c.args.at [])

pub loop-j-preserved : goal.loop-j-preserved
loop-j-preserved c =
    let a = c.args in
    (search rules, (c.put_byte.ensures ∙ hex_more _ a.out.now a.at a.frame.now c.loop-j.j c.loop-j.invariant.1 (search rules) (search rules)))

pub returns : goal.returns
returns c =
    let a = c.args in
    hex_end _ a.out.now a.at a.frame.now c.loop-j.j c.loop-j.invariant.1 (search rules)
