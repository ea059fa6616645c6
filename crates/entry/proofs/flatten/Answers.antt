-- `entry::flatten` meets its contract: one record more is held after each turn.
-- Assumes nothing.
use Rattle.std.proofs.Common.{◌≡◌, ◌<◌, get_or, take, arith}
use Rattle.std.proofs.lemmas.List.{length-take, get_or-take}
use Rattle.entry.specs.Listed.{none}
use Rattle.entry.proofs.Laws.{holds_next}
use Rattle.entry.proofs.flatten.Goals as goal

pub loop-i-preserved : goal.loop-i-preserved
loop-i-preserved c =
    let l = c.loop-i in
    let n = c.min-n.result in
    let rs = c.args.requests.now in
    let here : l.i < n = omega (arith, length-take n rs) in
    let same : get_or (take n rs) l.i none ≡ get_or rs l.i none = get_or-take n rs l.i none here in
    (c.put.array_long, rw (c.put.ensures, same) (holds_next rs l.i l.l l.invariant.0 (omega arith) l.invariant.1))
