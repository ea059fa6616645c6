-- `requests::judge_requests` meets its contract. The loop's invariant: of the first k requests none is found.
-- Assumes nothing.
use mathlib.Core.Path.{sym, ap, ◌∙◌}
use mathlib.Core.Bool.{not}
use Rattle.theory.proofs.Laws.First.{search_none, search_next, search_found, search_end}
use Rattle.tables.specs.Asked.{flat}
use Rattle.requests.specs.Requests.{fits, outside}
use Rattle.requests.specs.Laws.{outside_here, outside_none}
use borrow.Author.Rules.{rules}
use Rattle.requests.proofs.judge_requests.Goals as goal

pub loop-k-init : goal.loop-k-init
loop-k-init c =
    search_none _

pub returns-then-not-request_fits : goal.returns-then-not-request_fits
returns-then-not-request_fits c =
    let l = c.loop-k in
    let a = c.args in
    let f = outside a.roles (flat a.asked.now a.n) in
    let here = ap not (sym (c.request_fits.ensures ∙ ap (fits a.roles) c.request_at.ensures)) ∙ c.if-not-request_fits.true-raw in
    c.refuse.ensures ∙ outside_here a.roles (flat a.asked.now a.n) l.k c.loop-k-test.true (search_found l.k f l.invariant a.n c.loop-k-test.true here)

pub loop-k-preserved : goal.loop-k-preserved
loop-k-preserved c =
    let l = c.loop-k in
    let a = c.args in
    let here = ap not (sym (c.request_fits.ensures ∙ ap (fits a.roles) c.request_at.ensures)) ∙ c.if-not-request_fits.false-raw in
    search_next l.k (outside a.roles (flat a.asked.now a.n)) l.invariant here

pub returns : goal.returns
returns c =
    let l = c.loop-k in
    let a = c.args in
    outside_none a.roles (flat a.asked.now a.n) (search_end a.n l.k _ (search rules) (search rules) l.invariant)
