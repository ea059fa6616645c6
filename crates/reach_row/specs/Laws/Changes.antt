-- Laws of tests that change at one number after the other, or do not change.
-- Assumes nothing.
use Rattle.std.specs.Prelude.{◌≡◌, refl, Bool, true, false, ◌&&◌, ◌||◌, ℕ, ◌+◌, ◌≤◌, ◌<◌, eqb, ltb}
use Rattle.std.proofs.Common.{sym, ⊎_elim, arith, lt-ltb, le-ltb, ltb-true, ltb-false, eq-eqb, ne_eqb}
use Rattle.std.proofs.Math.Logic.{by_cases}
use Rattle.std.proofs.Math.Bool.{or-false}
use Rattle.std.proofs.Math.Decide.{ℕ_discrete}
use Rattle.theory.specs.Numbers.{EVENTS}
use Rattle.theory.proofs.Laws.Tests.{test, same_or}

-- no event is a number from 128 on
pub past_event : (b x : ℕ) → x < EVENTS → EVENTS ≤ b → eqb b x ≡ false
past_event b x l m = ne_eqb b x (λ e. omega arith)

-- ---- d added at the numbers below a: at none yet, at one more, and at all events

pub not_yet : (e d : Bool) (x : ℕ) → e ≡ (e || (ltb x 0 && d))
not_yet e d x = same_or e (ltb x 0 && d) (rw (le-ltb x 0 (omega arith)) refl)

pub one_more : (e d : Bool) (x a : ℕ) → ((e || (ltb x a && d)) || (eqb a x && d)) ≡ (e || (ltb x (a + 1) && d))
one_more e d x a =
    by_cases (ℕ_discrete x a)
    (λ (q : x ≡ a). rw (q, eq-eqb a a refl, le-ltb a a (omega arith), lt-ltb a (a + 1) (omega arith), or-false) refl)
    (λ (n : ¬ (x ≡ a)). rw (ne_eqb a x (λ q. n (sym q)), or-false, same_below n) refl)
  where
    same_below : ¬ (x ≡ a) → ltb x (a + 1) ≡ ltb x a
    same_below n = ⊎_elim
        (λ (t : ltb x a ≡ true). rw t (lt-ltb x (a + 1) (omega (arith, ltb-true x a t))))
        (λ (t : ltb x a ≡ false). rw t (le-ltb x (a + 1) (omega (arith, ltb-false x a t))))
        (test (ltb x a))

pub all_made : (e d : Bool) (x a : ℕ) → x < EVENTS → EVENTS ≤ a → (e || (ltb x a && d)) ≡ (e || d)
all_made e d x a l m = rw (lt-ltb x a (omega arith)) refl
