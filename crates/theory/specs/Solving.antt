-- What the solver goes by, for its own functions: the triggers whose heads stand on one level are swept over, in the set itself, until nothing is added; then those of the next level.
-- (No sentence of document 01: what the solver hands out is `Solves`, and `Laws.Solving` proves that this way leads there.)
-- Assumes nothing.
use Rattle.std.specs.Prelude.{◌≡◌, ◌⊎◌, Bool, true, false, cond, ◌&&◌, ℕ, suc, ◌*◌, ◌/◌, ◌%◌, ◌≤◌, ◌<◌, ltb}
use Rattle.theory.specs.Numbers.{EVENTS, PRIORITIES}
use Rattle.theory.specs.Below.{count_below}
use Rattle.theory.specs.Events.{Events, Roles, Part, conf}
use Rattle.theory.specs.Sheet.{Sheet, is}
use Rattle.theory.specs.Instant.{allows, met, Closed}
use Rattle.theory.specs.Graph.{counts}

-- ---- levels

-- For each trigger that `on` passes, the head stands no lower than a body event and above what conflicts with one.
abbrev pub Stratified : Sheet → (ℕ → Bool) → (ℕ → ℕ) → Type 0
Stratified sh on level = (i j : ℕ) → i < sh.trigger_count → on i ≡ true → j < (sh.trigger i).event_count
    → (level ((sh.trigger i).event j) ≤ level (sh.trigger i).head) × (level (conf ((sh.trigger i).event j)) < level (sh.trigger i).head)

-- S and S' have the same members of each event below level k
abbrev pub AgreeBelow : (ℕ → ℕ) → ℕ → Events → Events → Type 0
AgreeBelow level k S S' = (e : ℕ) → level e < k → S e ≡ S' e

-- ---- a trigger's turn

-- p:e is a prioritized event: an event of 0 to 127 with a priority of 0 to 15
abbrev pub prioritized : ℕ → ℕ → Bool
prioritized e p = ltb e EVENTS && ltb p PRIORITIES

-- the prioritized events, as one number each
abbrev pub MEMBERS : ℕ
MEMBERS = EVENTS * PRIORITIES

-- how many prioritized events are in X
unfoldable pub size_of : Events → ℕ
size_of X = count_below MEMBERS (λ k. X (k / PRIORITIES) (k % PRIORITIES))

-- A trigger's turn: where it acts its head p:e joins X, which becomes X'. `new` says whether that was an addition.
pub record Turn (acts : Bool) (X : Events) (e p : ℕ) (new : Bool) (X' : Events) : Type 0 where
  pub grows : Part X X'
  pub only : (a b : ℕ) → X' a b ≡ true → (X a b ≡ true) ⊎ ((acts ≡ true) × (is e p a b ≡ true))
  pub there : acts ≡ true → prioritized e p ≡ true → X' e p ≡ true
  pub same : new ≡ false → X' ≡ X
  pub more : new ≡ true → size_of X < size_of X'

-- ---- the invariant

-- THE INVARIANT. X holds the givens; it is closed for the triggers whose heads stand below level m; and it is part of every set that is closed under any S that
-- agrees with X below m.
pub record Done (sh : Sheet) (on : ℕ → Bool) (G : Events) (level : ℕ → ℕ) (m : ℕ) (X : Events) : Type 0 where
  pub given : Part G X
  pub closed : (i : ℕ) → i < sh.trigger_count → on i ≡ true → level (sh.trigger i).head < m → met X X (sh.trigger i) ≡ true
      → X (sh.trigger i).head (sh.trigger i).priority ≡ true
  pub least : (S Y : Events) → AgreeBelow level m X S → Closed sh on G S Y → Part X Y

-- ---- keys

-- What a program keeps for each trigger is its key: the level of its head, which is not 0, or 0 where it cannot fire at this instant. (And heads are prioritized events.)
pub record Keys (sh : Sheet) (on : ℕ → Bool) (level key : ℕ → ℕ) : Type 0 where
  pub acts : (i : ℕ) → i < sh.trigger_count → on i ≡ true → key i ≡ level (sh.trigger i).head
  pub above : (i : ℕ) → i < sh.trigger_count → on i ≡ true → 0 < level (sh.trigger i).head
  pub idle : (i : ℕ) → i < sh.trigger_count → on i ≡ false → key i ≡ 0
  pub fits : (i : ℕ) → i < sh.trigger_count → on i ≡ true → prioritized (sh.trigger i).head (sh.trigger i).priority ≡ true

-- THE KEYS of the solver: one more than the level of the head, and 0 where the trigger does not count or its conditions do not all hold.
unfoldable pub key_of : Sheet → Roles → (ℕ → ℕ) → ℕ → ℕ
key_of sh ST level i = cond (counts sh i && allows ST (sh.trigger i)) (suc (level (sh.trigger i).head)) 0

-- of the triggers below n, those of key m have nothing to add to X
abbrev pub Settled : Sheet → (ℕ → ℕ) → ℕ → Events → ℕ → Type 0
Settled sh key m X n = (i : ℕ) → i < n → key i ≡ m → prioritized (sh.trigger i).head (sh.trigger i).priority ≡ true → met X X (sh.trigger i) ≡ true
    → X (sh.trigger i).head (sh.trigger i).priority ≡ true

-- none of the triggers below n has a key between k and r
abbrev pub Gap : (ℕ → ℕ) → ℕ → ℕ → ℕ → Type 0
Gap key n k r = (i : ℕ) → i < n → (key i ≤ k) ⊎ (r ≤ key i)

-- ---- a sweep over the triggers of one key

-- What makes X' of X keeps the invariant of level m: from any givens, whichever triggers can fire, under any levels of which these are the keys.
abbrev pub Keeps : Sheet → (ℕ → ℕ) → ℕ → Events → Events → Type 0
Keeps sh key m X X' = (on : ℕ → Bool) (G : Events) (level : ℕ → ℕ) → Stratified sh on level → Keys sh on level key → Done sh on G level m X → Done sh on G level m X'

-- a sweep over the triggers below n, from X to X'; `new` says whether something was added
pub record Swept (sh : Sheet) (key : ℕ → ℕ) (m : ℕ) (X : Events) (n : ℕ) (new : Bool) (X' : Events) : Type 0 where
  pub keeps : Keeps sh key m X X'
  pub settled : new ≡ false → Settled sh key m X' n
  pub most : size_of X ≤ size_of X'
  pub more : new ≡ true → size_of X < size_of X'

-- ---- the keys in order

-- From the givens G the key k is reached in X: whichever triggers can fire, under any levels of which these are the keys.
abbrev pub Reached : Sheet → (ℕ → ℕ) → Events → ℕ → Events → Type 0
Reached sh key G k X = (on : ℕ → Bool) (level : ℕ → ℕ) → Stratified sh on level → Keys sh on level key → Done sh on G level k X
