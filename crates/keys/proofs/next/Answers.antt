-- `keys::next` meets its contract: no key lies between k and the first whose chain is not empty.
-- Assumes nothing.
use Prim.Native.Nat.{◌+◌, ◌≤◌, ◌<◌}
use Rattle.std.proofs.lemmas.Iterator.{first_from_Range}
use Rattle.keys.specs.Keys.{KEYS, first_of}
use Rattle.keys.specs.Laws.{next_found}
use borrow.Author.Rules.{rules}
use borrow.Author.Tests.{tests}
use Rattle.keys.proofs.next.Goals as goal

pub returns : goal.returns
returns c =
    let a = c.args in
    rw c.unwrap_or.ensures (next_found a.chains.now a.n a.k c.find.result c.requires
    (first_from_Range (record { start = a.k + 1; end = KEYS }) _ _ c.find.result (λ r. first_of a.chains.now r < a.n) (λ r. a.n ≤ first_of a.chains.now r) c.find.ensures.ran
    (λ x q k. search (rules, tests))
    (λ x q k. search (rules, tests))))
