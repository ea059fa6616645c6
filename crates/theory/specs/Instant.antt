-- One instant: Caused(S), the equation S = Caused(S), what waits, and the roles after (document 01, 'One instant'). The givens themselves are in `Box`, where the state is.
-- Assumes nothing.
use Rattle.std.specs.Prelude.{◌≡◌, Bool, true, false, not, ◌&&◌, ◌||◌, ℕ, ◌<◌, ltb, eqb}
use Rattle.theory.specs.Numbers.{PRIORITIES}
use Rattle.theory.specs.Below.{any_below, all_below, all}
use Rattle.theory.specs.Events.{Events, Roles, disable, enable, holds, blocked, nonblocked}
use Rattle.theory.specs.Sheet.{Trigger, Sheet, event_tests, is}

-- The requests of one instant: `asks d e p ≡ true` says that p:e is asked for with delay d.
abbrev pub Requests : Type 0
Requests = ℕ → Events

-- a request's event is below twice the role count, its priority at most 15, its delay at most 60 (the instant of its frame is tape_tests' own test, FIELD)
unfoldable pub request_fits : ℕ → ℕ → ℕ → ℕ → Bool
request_fits role_count d e p = all (event_tests role_count e p d)

-- the conditions of a trigger all hold in ST
unfoldable pub allows : Roles → Trigger → Bool
allows ST g = all_below g.condition_count (λ j. holds ST (g.condition j))

-- each body event E of a trigger has some q with q:E in X and q:E not blocked by S
unfoldable pub met : Events → Events → Trigger → Bool
met S X g = all_below g.event_count (λ j. nonblocked S X (g.event j))

-- a trigger of delay 0
abbrev pub immediate : Trigger → Bool
immediate g = eqb g.delay 0

-- trigger i has delay 0, and its conditions all hold in ST
unfoldable pub ready : Sheet → Roles → ℕ → Bool
ready sh ST i = immediate (sh.trigger i) && allows ST (sh.trigger i)

-- ---- Caused(S)

-- X holds the givens, and the head of each trigger of those that `on` passes whose body is met.
pub record Closed (sh : Sheet) (on : ℕ → Bool) (givens S X : Events) : Type 0 where
  pub holds_givens : (e p : ℕ) → givens e p ≡ true → X e p ≡ true
  pub holds_heads : (i : ℕ) → i < sh.trigger_count → on i ≡ true → met S X (sh.trigger i) ≡ true → X (sh.trigger i).head (sh.trigger i).priority ≡ true

-- X is the least such set.
pub record IsLeast (sh : Sheet) (on : ℕ → Bool) (givens S X : Events) : Type 0 where
  pub closed : Closed sh on givens S X
  pub least : (Y : Events) → Closed sh on givens S Y → (e p : ℕ) → X e p ≡ true → Y e p ≡ true

-- X is Caused(S), in an instant with the roles ST before it and these givens.
abbrev pub IsCaused : Sheet → Roles → Events → Events → Events → Type 0
IsCaused sh ST givens S X = IsLeast sh (ready sh ST) givens S X

-- The least such set said by derivations: p:e is given, or the head of a trigger that `on` passes, each of whose body events E has a derivation of some q:E that S does
-- not block. (`Laws.Derive` proves that both forms are the same.)
pub data Derives (sh : Sheet) (on : ℕ → Bool) (givens S : Events) : ℕ → ℕ → Type 0 where
  given : {e p : ℕ} → givens e p ≡ true → Derives sh on givens S e p
  fired : (i : ℕ) → i < sh.trigger_count → on i ≡ true
      → (q : ℕ → ℕ)
      → ((j : ℕ) → j < (sh.trigger i).event_count → q j < PRIORITIES)
      → ((j : ℕ) → j < (sh.trigger i).event_count → blocked S ((sh.trigger i).event j) (q j) ≡ false)
      → ((j : ℕ) → j < (sh.trigger i).event_count → Derives sh on givens S ((sh.trigger i).event j) (q j))
      → Derives sh on givens S (sh.trigger i).head (sh.trigger i).priority

-- THE EQUATION. S is a solution of the instant: S = Caused(S).
abbrev pub Solves : Sheet → Roles → Events → Events → Type 0
Solves sh ST givens S = IsCaused sh ST givens S S

-- ---- what waits, and the roles after

-- p:e comes to wait for d instants later, d > 0: it is asked for with delay d, or it is the head of a trigger of delay d with the same test.
unfoldable pub waits_for : Sheet → Requests → Roles → Events → ℕ → Events
waits_for sh asks ST S d e p =
    ltb 0 d
    && (asks d e p
    || any_below sh.trigger_count (λ i.
    (eqb (sh.trigger i).delay d && (allows ST (sh.trigger i) && met S S (sh.trigger i)))
    && is (sh.trigger i).head (sh.trigger i).priority e p))

-- ST after: roles with a nonblocked enable in S are added, roles with a nonblocked disable removed, others kept.
unfoldable pub roles_after : Roles → Events → Roles
roles_after ST S r = (ST r || nonblocked S S (enable r)) && not (nonblocked S S (disable r))
