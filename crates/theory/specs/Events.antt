-- Events, conditions, conflict, and what blocks what: document 01, 'Numbers' and the first rule of 'One instant' (004, definition 3.6).
-- Assumes nothing.
use Rattle.std.specs.Prelude.{◌≡◌, Bool, true, not, cond, ◌&&◌, ℕ, ◌+◌, ◌-◌, ◌*◌, ◌/◌, ◌%◌, leb, ltb, eqb}
use Rattle.theory.specs.Numbers.{PRIORITIES}
use Rattle.theory.specs.Below.{any_below}

-- A set of prioritized events: `S e p ≡ true` says that p:e is in S.
abbrev pub Events : Type 0
Events = ℕ → ℕ → Bool

-- X is part of Y
abbrev pub Part : Events → Events → Type 0
Part X Y = (e p : ℕ) → X e p ≡ true → Y e p ≡ true

-- A set of roles: `ST r ≡ true` says that role r is enabled.
abbrev pub Roles : Type 0
Roles = ℕ → Bool

-- event number 2 × role is disable, 2 × role + 1 is enable
abbrev pub disable : ℕ → ℕ
disable r = 2 * r

abbrev pub enable : ℕ → ℕ
enable r = 2 * r + 1

-- event e is an enable; condition c is "enabled"
abbrev pub odd : ℕ → Bool
odd n = eqb (n % 2) 1

-- the conflicting event: the same role and the other low bit
unfoldable pub conf : ℕ → ℕ
conf e = cond (odd e) (e - 1) (e + 1)

-- condition 2 × role is "not enabled", 2 × role + 1 is "enabled"; it holds in the roles ST
unfoldable pub holds : Roles → ℕ → Bool
holds ST c = cond (odd c) (ST (c / 2)) (not (ST (c / 2)))

-- q:conf(e) blocks p:e. An enable is blocked by a disable of q ≥ p, a disable by an enable of q > p.
unfoldable pub blocks : ℕ → ℕ → ℕ → Bool
blocks e q p = cond (odd e) (leb p q) (ltb p q)

-- p:e, which need not be in S, is blocked by S
unfoldable pub blocked : Events → ℕ → ℕ → Bool
blocked S e p = any_below PRIORITIES (λ q. S (conf e) q && blocks e q p)

-- some q:e is in X and not blocked by S: the first set is the one that blocks, the second the one that holds
unfoldable pub nonblocked : Events → Events → ℕ → Bool
nonblocked S X e = any_below PRIORITIES (λ q. X e q && not (blocked S e q))
