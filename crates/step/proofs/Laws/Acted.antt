-- The instant's own work is a step of the model, once nothing is refused.
-- Assumes nothing.
use Rattle.std.specs.Prelude.{◌≡◌, List, ℕ, length}
use Rattle.std.proofs.Common.{ap, ◌∙◌, subst, add-one}
use Rattle.std.proofs.Math.Path.{fun_ext}
use Rattle.theory.specs.Numbers.{EVENTS}
use Rattle.theory.specs.Events.{Events}
use Rattle.theory.specs.Instant.{Solves}
use Rattle.theory.specs.Box.{givens}
use Rattle.tables.specs.Buffers.{roles_of, events_of}
use Rattle.tables.specs.Asked.{Asked, asks}
use Rattle.tables.specs.Lent.{Rules, sheet_in, Lent, state_in}
use Rattle.roles_after.specs.Laws.{roles_are}
use Rattle.instant.specs.Acted.{filled, Acted}
use Rattle.step.specs.Outcome.{Stepped}
use Rattle.step.specs.Parts.{Sized, Sound}
use Rattle.step.proofs.Laws.Buffers.{filled_size, filled_is, rows_size, rows_are}

pub acted : (R : Rules) (levels : List ℕ) (q : Asked) (a b : Lent) → Sized a.waiting a.events
    → Acted R q levels a b → Sound R levels q → Stepped R q a b
acted R levels q a b size x sound =
    let t : ℕ = a.instant in
    let w : List ℕ = a.waiting in
    let l : List ℕ = a.events in
    let full : List ℕ = filled l w R.tables.periodics R.counts.periodics q t in
    let k : length full ≡ EVENTS = filled_size R sound.good q sound.fit l w t size.1 in
    let is : events_of full ≡ givens (sheet_in R) (asks q) (state_in a) = fun_ext (λ e. fun_ext (λ p. filled_is R sound.good q sound.fit l w t a.roles size.1 e p)) in
    record {
      step = record {
        solves = subst (λ (G : Events). Solves (sheet_in R) (roles_of a.roles) G (events_of b.events)) is
            (x.solved.solves R.counts.roles R.counts.periodics R.tables.periodics k sound.good sound.rule);
        instant = x.next ∙ add-one t;
        roles = λ r. ap (λ (y : ℕ). roles_of y r) x.roles ∙ roles_are a.roles b.events x.wide r;
        waiting = λ r e p _. rw x.waits (rows_are R sound.good q sound.fit (roles_of a.roles) (events_of b.events) t w size.0 r e p);
      };
      waiting_size = ap length x.waits ∙ rows_size R sound.good q sound.fit (roles_of a.roles) (events_of b.events) t w size.0;
      events_size = x.solved.size ∙ k;
    }
