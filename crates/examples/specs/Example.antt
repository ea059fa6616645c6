-- The kinds of examples, and what an example of each kind says in the definitions of the box.
-- Assumes nothing.
use Rattle.std.specs.Prelude.{◌≡◌, Bool, true, false, List, [], ◌∷◌, ℕ, ◌/◌, ◌<◌, length, get_or}
use Rattle.theory.specs.Numbers.{NO_END}
use Rattle.theory.specs.Events.{Events, Roles, odd, conf, blocked}
use Rattle.theory.specs.Sheet.{Periodic, Trigger, Sheet, GoodOrder, row_due}
use Rattle.theory.specs.Instant.{met, Solves, roles_after}
use Rattle.theory.specs.Graph.{NoLoop, LoopAt}
use Rattle.answers.specs.declared.Name.TheVariants.{Loop}
use Rattle.answers.specs.Answers.{refuse, pass}
use Rattle.table_judge.specs.Judge.{judge_tables}
use Rattle.examples.specs.Written.{Prioritized, among, Rule, Rest, sheet_with, Fits}
use Rattle.examples.specs.Day.{Day, Worked}

-- Where a kind has levels of the events from 0 on, or the events on a way back, these are for the test alone: what is said does not name them.
pub data Example : Type 0 where
  -- an example for each number below n
  each : (n : ℕ) → (ℕ → Example) → Example
  -- a row of this period, first and run is due at t, or it is not
  due_at : (period first run t : ℕ) → Bool → Example
  -- of two conflicting events the first wins
  wins_over : (winner loser : Prioritized) → Example
  -- a sheet of at least so many roles with these rules is accepted
  accepted : (roles : ℕ) → List Rule → (levels : List ℕ) → Example
  -- a sheet of at least so many roles with these rules is refused with LOOP at this place; from its second event the others lead back to its first
  loops : (roles : ℕ) → List Rule → (place : ℕ) → (back : List ℕ) → Example
  -- with these givens, this is the solution
  solved : List Rule → (givens solution : List Prioritized) → (levels : List ℕ) → Example
  -- the solution is the givens
  as_given : List Rule → Example
  -- a trigger with these events in its body fires in no solution
  never_fires : List ℕ → Example
  -- a day's input, opened, stepped and printed
  worked : Day → Example

-- ---- what each kind says

-- a row from instant 0 on, without an end
abbrev pub row_of : (period first run event priority : ℕ) → Periodic
row_of period first run event priority = record { begin = 0; end = NO_END; period = period; first = first; run = run; event = event; priority = priority }

-- In the set of the two, which conflict, w is not blocked and l is; and whatever the roles before, w decides the role.
pub record Wins (w l : Prioritized) : Type 0 where
  pub conflict : l.event ≡ conf w.event
  pub stands : blocked (among (w ∷ l ∷ [])) w.event w.priority ≡ false
  pub falls : blocked (among (w ∷ l ∷ [])) l.event l.priority ≡ true
  pub after : (ST : Roles) → roles_after ST (among (w ∷ l ∷ [])) (w.event / 2) ≡ odd w.event

-- The sheet is in good order and has no loop, and the judge of the tables passes it.
pub record SheetAccepted (sh : Sheet) : Type 0 where
  pub good : GoodOrder sh
  pub no_loop : NoLoop sh
  pub verdict : judge_tables sh ≡ pass

-- The sheet has a loop at this place, and the judge of the tables says so.
pub record SheetRefused (sh : Sheet) (place : ℕ) : Type 0 where
  pub loop : LoopAt sh place
  pub verdict : judge_tables sh ≡ refuse Loop place

-- Whatever the roles before, S solves the equation with these givens, and nothing else does.
pub record OnlySolution (sh : Sheet) (givens S : Events) : Type 0 where
  pub solution : (ST : Roles) → Solves sh ST givens S
  pub only : (ST : Roles) (T : Events) → Solves sh ST givens T → T ≡ S

-- each of these events is in the trigger's body, in whatever order and with whatever else
abbrev pub InBody : List ℕ → Trigger → Type 0
InBody events g = (k : ℕ) → k < length events → (j : ℕ) × (j < g.event_count) × (g.event j ≡ get_or events k 0)

-- WHAT AN EXAMPLE SAYS
abbrev pub Says : Example → Type 0
Says (each n f) = (i : ℕ) → i < n → Says (f i)
Says (due_at period first run t b) = (event priority : ℕ) → row_due (row_of period first run event priority) t ≡ b
Says (wins_over w l) = Wins w l
Says (accepted roles rules levels) = (rest : Rest) → Fits roles rest → SheetAccepted (sheet_with rest rules)
Says (loops roles rules place back) = (rest : Rest) → Fits roles rest → SheetRefused (sheet_with rest rules) place
Says (solved rules givens solution levels) = (rest : Rest) → OnlySolution (sheet_with rest rules) (among givens) (among solution)
Says (as_given rules) = (rest : Rest) (G : Events) → OnlySolution (sheet_with rest rules) G G
Says (never_fires events) = (sh : Sheet) (i : ℕ) → i < sh.trigger_count → InBody events (sh.trigger i)
    → (ST : Roles) (givens S : Events) → Solves sh ST givens S → met S S (sh.trigger i) ≡ false
Says (worked d) = Worked d

-- all of them say so
abbrev pub Said : List Example → Type 0
Said [] = Unit {0}
Said (x ∷ xs) = Says x × Said xs
