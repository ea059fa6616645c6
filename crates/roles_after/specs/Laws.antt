-- The roles as a number are the roles after: each role below 64 by its own turn, and above there are none.
-- Assumes nothing.
use Rattle.std.specs.Prelude.{◌≡◌, refl, Bool, true, false, ◌&&◌, ◌||◌, List, ℕ, zero, suc, ◌+◌, ◌^◌, ◌≤◌, ◌<◌, ltb, eqb}
use Rattle.std.proofs.Common.{sym, ap, ◌∙◌, add-one, arith, lt-ltb, le-ltb, eq-eqb, ne_eqb}
use Rattle.std.proofs.Math.Logic.{by_cases}
use Rattle.std.proofs.Math.Bool.{and-true, and-false, or-false}
use Rattle.std.proofs.Math.Decide.{dec_lt}
use Rattle.theory.specs.Numbers.{ROLES}
use Rattle.theory.specs.Events.{Events, Roles, enable}
use Rattle.theory.specs.Instant.{roles_after}
use Rattle.tables.specs.Buffers.{bit, roles_of, events_of}
use Rattle.masks.specs.Laws.Bits.{bit_none, bit_high}
use Rattle.masks.specs.Laws.Joined.{bit_joined}
use Rattle.masks.specs.Laws.Live.{live_none}
use Rattle.roles_after.specs.After.{with_role, roles_below}

-- ---- role after role

-- the roles, and r where `on`
role_joined : (roles r k : ℕ) (on : Bool) → r < ROLES → bit (with_role roles r on) k ≡ (bit roles k || (on && eqb r k))
unfolding with_role
role_joined roles r k true h = rw (lt-ltb r ROLES h) (bit_joined roles r k)
role_joined roles r k false h = sym (or-false (bit roles k))

pub roles_none : (ST : Roles) (S : Events) → 0 ≡ roles_below ST S 0
unfolding roles_below
roles_none ST S = refl

pub roles_next : (ST : Roles) (S : Events) (n a b : ℕ) (on : Bool) → a ≡ roles_below ST S n → on ≡ roles_after ST S n → b ≡ with_role a n on → b ≡ roles_below ST S (n + 1)
unfolding roles_below
roles_next ST S n a b on h e w = rw add-one (rw (h, e) at w)

pub roles_end : (ST : Roles) (S : Events) (n i a : ℕ) → i ≤ n → n ≤ i → a ≡ roles_below ST S i → a ≡ roles_below ST S n
roles_end ST S n i a h k e = let z : i ≡ n = omega arith in rw z at e

-- ---- what they are

roles_in_lem : (ST : Roles) (S : Events) (n : ℕ) → n ≤ ROLES → (k : ℕ) → bit (roles_below ST S n) k ≡ (ltb k n && roles_after ST S k)
unfolding roles_below
roles_in_lem ST S zero h k = bit_none k ∙ sym (ap (λ (b : Bool). b && roles_after ST S k) (le-ltb k 0 (omega arith)))
roles_in_lem ST S (suc n) h k =
    let on : Bool = roles_after ST S n in
    role_joined (roles_below ST S n) n k on (omega arith)
    ∙ ap (λ (b : Bool). b || (on && eqb n k)) (roles_in_lem ST S n (omega arith) k)
    ∙ by_cases (dec_lt k n)
    (λ (l : k < n). rw (lt-ltb k n l, lt-ltb k (suc n) (omega arith), ne_eqb n k (λ e. omega arith)) (ap (λ (b : Bool). roles_after ST S k || b) (and-false on) ∙ or-false (roles_after ST S k)))
    (λ (l : ¬ (k < n)).
    by_cases (dec_lt k (suc n))
    (λ (m : k < suc n).
    let e : n ≡ k = omega arith in
    rw (le-ltb k n (omega arith), lt-ltb k (suc n) m, eq-eqb n k e) (and-true on ∙ ap (roles_after ST S) e))
    (λ (m : ¬ (k < suc n)). rw (le-ltb k n (omega arith), le-ltb k (suc n) (omega arith), ne_eqb n k (λ e. omega arith)) (and-false on)))

-- THE LAW: of roles of 64 bits and a buffer's events, these are the roles after
pub roles_are : (roles : ℕ) (l : List ℕ) → roles < 2 ^ 64 → (r : ℕ) → roles_of (roles_below (roles_of roles) (events_of l) ROLES) r ≡ roles_after (roles_of roles) (events_of l) r
unfolding roles_after
roles_are roles l h r =
    roles_in_lem (roles_of roles) (events_of l) ROLES (omega arith) r
    ∙ by_cases (dec_lt r ROLES)
    (λ (k : r < ROLES). rw (lt-ltb r ROLES k) refl)
    (λ (k : ¬ (r < ROLES)).
    rw (le-ltb r ROLES (omega arith), bit_high roles 64 r h (omega arith), live_none l (enable r) (omega arith)) refl)
