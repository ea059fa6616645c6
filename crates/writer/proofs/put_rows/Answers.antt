-- `writer::put_rows` meets its contract: the lines of the rows so far are none longer than the longest, so there is room for one more.
-- Assumes nothing.
use Rattle.writer.proofs.Laws.Puts.{puts_none, puts_next, puts_end, text_short, one_more}
use borrow.Author.Rules.{rules}
use native.Mathlib.Omega.{arith}
use Rattle.writer.proofs.put_rows.Goals as goal

pub loop-i-init : goal.loop-i-init
loop-i-init g c =
    puts_none _ _

pub put_row-to-requires : goal.put_row-to-requires
put_row-to-requires g c =
    let rows = g.R.Rows in
    let t = c.args.table.now in
    let i = c.loop-i.i in
    let h = text_short rows.most i (rows.text t) (λ j b. g.met.R.Rows.short t j (c.requires.good j (omega arith))) in
    let m = one_more rows.most i c.args.n (search rules) in
    (omega (arith, h, m, c.loop-i.invariant.place), c.requires.good i (search rules))

pub loop-i-preserved : goal.loop-i-preserved
loop-i-preserved g c =
    let rows = g.R.Rows in
    let t = c.args.table.now in
    let i = c.loop-i.i in
    let h = text_short rows.most i (rows.text t) (λ j b. g.met.R.Rows.short t j (c.requires.good j (omega arith))) in
    let k = g.met.R.Rows.short t i (c.requires.good i (search rules)) in
    let m = one_more rows.most i c.args.n (search rules) in
    puts_next _ _ _ _ _ _ i (rows.text t) c.loop-i.invariant c.put_row-to.ensures (omega (arith, h, k, m))

pub returns : goal.returns
returns g c =
    let rows = g.R.Rows in
    record {
      puts = puts_end _ _ _ _ c.loop-i.i c.args.n (rows.text c.args.table.now) c.loop-i.invariant (search rules);
      bytes = λ i. (c.type_inv.table i).fits;
    }
