-- THE TABLE: document 01's bench examples that are marked P. `Laws.Said` has the one proof over it.
-- Assumes nothing.
use Rattle.std.specs.Prelude.{true, false, List, [], ◌∷◌, ℕ}
use Rattle.theory.specs.Numbers.{PRIORITIES}
use Rattle.theory.specs.Events.{disable, enable}
use Rattle.examples.specs.Written.{◌∶◌, Rule, ◌gives◌after◌, ◌asked-at◌after◌, ◌waits-for◌}
use Rattle.examples.specs.Day.{Day}
use Rattle.examples.specs.Example.{Example, each, due_at, wins_over, accepted, loops, solved, as_given, never_fires, worked}

-- ---- rules of the examples, of any priorities p and q

-- "enable 0 gives disable 0", with this delay
abbrev own : ℕ → ℕ → List Rule
own p delay = ((enable 0 ∷ []) gives p ∶ disable 0 after delay) ∷ []

-- "enable 0 gives disable 1" and "enable 1 gives disable 0"
abbrev crossed : ℕ → ℕ → List Rule
crossed p q = ((enable 0 ∷ []) gives p ∶ disable 1 after 0) ∷ ((enable 1 ∷ []) gives q ∶ disable 0 after 0) ∷ []

-- "enable 0 gives enable 1" and back
abbrev ring : ℕ → ℕ → List Rule
ring p q = ((enable 0 ∷ []) gives p ∶ enable 1 after 0) ∷ ((enable 1 ∷ []) gives q ∶ enable 0 after 0) ∷ []

-- for all priorities p
abbrev all : (ℕ → Example) → Example
all = each PRIORITIES

-- for all priorities p and q
abbrev all₂ : (ℕ → ℕ → Example) → Example
all₂ f = all (λ p. all (f p))

-- ---- the worked input

-- its periodic row, as the table holds it: 4:enable 0 at 1, 25 and so on
abbrev pub periodics : List ℕ
periodics = 0 ∷ 0 ∷ 0 ∷ 0 ∷ 255 ∷ 255 ∷ 255 ∷ 255 ∷ 0 ∷ 24 ∷ 0 ∷ 1 ∷ 0 ∷ 1 ∷ 1 ∷ 4 ∷ []

-- its triggers, as the table holds them: enable 0 gives 6:disable 2; disable 2, where 1 is not enabled, gives 5:enable 1 after 2
abbrev pub triggers : List ℕ
triggers =
    1 ∷ 0 ∷ 1 ∷ 0 ∷ 0 ∷ 0 ∷ 0 ∷ 0 ∷ 0 ∷ 0 ∷ 4 ∷ 6 ∷ 0
    ∷ 1 ∷ 1 ∷ 4 ∷ 0 ∷ 0 ∷ 0 ∷ 2 ∷ 0 ∷ 0 ∷ 0 ∷ 3 ∷ 5 ∷ 2 ∷ []

-- its lines as printed, what is read of them, its instants, and the lines that it prints
abbrev pub input : Day
input =
    record {
      input =
          "100103EC"
          ∷ "2000000000FFFFFFFF0018000100010104C5"
          ∷ "30010001040600C4"
          ∷ "3001010402030502BE"
          ∷ "F00100020D"
          ∷ "4000000001050600B4"
          ∷ "F1000000040B"
          ∷ [];
      read = record { roles = 3; periodics = 1; triggers = 2 };
      periodics = periodics;
      triggers = triggers;
      levels = [];
      requests = (6 ∶ enable 2 asked-at 1 after 0) ∷ [];
      last = 4;
      minutes =
          record { events = []; roles = []; waits = [] }
          ∷ record {
            events =
                (4 ∶ enable 0)
                ∷ (6 ∶ enable 2)
                ∷ (6 ∶ disable 2)
                ∷ [];
            roles = 0 ∷ [];
            waits = (5 ∶ enable 1 waits-for 3) ∷ [];
          }
          ∷ record { events = []; roles = 0 ∷ []; waits = (5 ∶ enable 1 waits-for 3) ∷ [] }
          ∷ record { events = (5 ∶ enable 1) ∷ []; roles = 0 ∷ 1 ∷ []; waits = [] }
          ∷ record { events = []; roles = 0 ∷ 1 ∷ []; waits = [] }
          ∷ [];
      output =
          "5000000000000000000000000000B0"
          ∷ "5000000001000000000000000102AC"
          ∷ "5000000002000000000000000100AD"
          ∷ "5000000003000000000000000301A9"
          ∷ "5000000004000000000000000300A9"
          ∷ [];
    }

-- ---- THE TABLE

abbrev pub table : List Example
table =
    -- 1. Period 24, first 1, run 12: due at 1, 12, 25; not at 0, 13, 24.
    due_at 24 1 12 1 true
    ∷ due_at 24 1 12 12 true
    ∷ due_at 24 1 12 25 true
    ∷ due_at 24 1 12 0 false
    ∷ due_at 24 1 12 13 false
    ∷ due_at 24 1 12 24 false
    -- 2. 6:enable 2 and 6:disable 2: disable wins. 7:enable 2 and 6:disable 2: enable wins.
    ∷ wins_over (6 ∶ disable 2) (6 ∶ enable 2)
    ∷ wins_over (7 ∶ enable 2) (6 ∶ disable 2)
    -- 3. "enable 0 gives disable 0", delay 0: LOOP, place 0. With delay 1: accepted.
    ∷ all (λ p. loops 1 (own p 0) 0 [])
    ∷ all (λ p. accepted 1 (own p 1) [])
    -- 4. "enable 0 gives disable 1" and "enable 1 gives disable 0": LOOP, place 2.
    ∷ all₂ (λ p q. loops 2 (crossed p q) 2 (disable 0 ∷ []))
    -- 5. "enable 0 gives enable 1" and back, no givens: accepted, empty solution.
    ∷ all₂ (λ p q. accepted 2 (ring p q) [])
    ∷ all₂ (λ p q. solved (ring p q) [] [] [])
    -- 6. Empty trigger table: accepted; the solution is the givens.
    ∷ accepted 1 [] []
    ∷ as_given []
    -- 7. Body with enable 0 and disable 0: fires in no solution.
    ∷ never_fires (enable 0 ∷ disable 0 ∷ [])
    -- 8. The input above at instant 1: 4:enable 0, 6:enable 2, 6:disable 2; 5:enable 1 waits for 3. All of its instants, and the output above.
    ∷ worked input
    ∷ []
