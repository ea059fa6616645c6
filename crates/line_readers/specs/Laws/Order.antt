-- A line that passes has passed each of its tests.
-- Assumes nothing.
use Rattle.std.specs.Prelude.{◌≡◌, true, ℕ}
use Rattle.answers.specs.declared.Name.{Name}
use Rattle.answers.proofs.Laws.{cond_pass}
use Rattle.line_readers.specs.declared.Tests.{Tests}
use Rattle.line_readers.specs.Order.{in_order}
use Rattle.answers.specs.Answers.{pass}

pub record EachPasses (t : Tests) : Type 0 where
  pub framed : t.framed ≡ true
  pub checked : t.checked ≡ true
  pub kind : t.kind ≡ true
  pub room : t.room ≡ true
  pub field : t.field ≡ true
  pub last : t.last ≡ true

pub each_passes : (t : Tests) (name : Name) (place : ℕ) → in_order t name place ≡ pass → EachPasses t
unfolding in_order
each_passes t name place e =
    let a = cond_pass t.framed _ _ _ e in
    let b = cond_pass t.checked _ _ _ a.1 in
    let c = cond_pass t.kind _ _ _ b.1 in
    let d = cond_pass t.room _ _ _ c.1 in
    let f = cond_pass t.field _ _ _ d.1 in
    let g = cond_pass t.last _ _ _ f.1 in
    record { framed = a.0; checked = b.0; kind = c.0; room = d.0; field = f.0; last = g.0 }
