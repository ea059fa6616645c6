-- The contract of this crate's public function leaves one possible content of the buffer wherever it promises a solution: any two that it allows are equal. (Elsewhere,
-- which no step comes to, it promises the length alone.)
-- Assumes nothing.
use Rattle.std.specs.Prelude.{◌≡◌, List, ℕ, length}
use Rattle.std.proofs.Common.{ap, ◌∙◌}
use Rattle.theory.specs.Numbers.{EVENTS}
use Rattle.theory.specs.Events.{Events}
use Rattle.theory.specs.Sheet.{GoodOrder}
use Rattle.theory.specs.Graph.{Levels}
use Rattle.theory.proofs.Laws.OneSolution.{levels_unique}
use Rattle.tables.specs.Layout.{byte_at, sheet_of}
use Rattle.tables.specs.Buffers.{roles_of, events_of}
use Rattle.masks.specs.Laws.Held.{events_one}
use Rattle.solver.specs.Solved.{Solved}

pub solve_exact : (levels table : List ℕ) (n roles : ℕ) (before after after' : List ℕ) (role_count periodic_count : ℕ) (periodics : List ℕ)
    → length before ≡ EVENTS
    → GoodOrder (sheet_of role_count periodic_count n periodics table)
    → Levels (sheet_of role_count periodic_count n periodics table) (byte_at levels)
    → Solved levels table n roles before after → Solved levels table n roles before after' → after ≡ after'
solve_exact levels table n roles before after after' a b periodics l good lv s s' =
    let one : events_of after ≡ events_of after'
    = levels_unique (sheet_of a b n periodics table) (byte_at levels) lv (roles_of roles) (events_of before) (events_of after) (events_of after')
    (s.solves a b periodics l good lv)
    (s'.solves a b periodics l good lv) in
    events_one after after' (s.size ∙ l) (s'.size ∙ l) (λ e p. ap (λ (S : Events). S e p) one)
