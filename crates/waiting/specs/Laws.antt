-- What the rows hold once they are copied or cleared.
-- Assumes nothing.
use Rattle.std.specs.Prelude.{◌≡◌, refl, true, false, not, ◌&&◌, List, ℕ, ◌+◌, ◌*◌, ◌<◌, ltb, eqb, length, get_or}
use Rattle.std.proofs.Common.{sym, ap, ◌∙◌, ⊎_elim, arith, eqb-true, lt-ltb, le-ltb}
use Rattle.std.proofs.Math.Logic.{by_cases}
use Rattle.std.proofs.Math.Bool.{and-false}
use Rattle.std.proofs.Math.Decide.{dec_lt}
use Rattle.std.proofs.lemmas.Bool.{eqb-false}
use Rattle.theory.specs.Numbers.{EVENTS, WAITING_NUMBERS}
use Rattle.theory.specs.Box.{row}
use Rattle.theory.proofs.Laws.Tests.{test}
use Rattle.tables.specs.Buffers.{bit, events_of, waiting_of}
use Rattle.masks.specs.Laws.Bits.{bit_none}
use Rattle.masks.specs.Laws.Joins.{writes_in, writes_out}
use Rattle.waiting.specs.Waiting.{place_of, copied, cleared}

-- the events buffer holds what waits for t
pub copied_is : (l w : List ℕ) (t : ℕ) → length l ≡ EVENTS → (e p : ℕ) → events_of (copied l w t) e p ≡ waiting_of w (row t) e p
copied_is l w t h e p =
    by_cases (dec_lt e EVENTS)
    (λ (k : e < EVENTS).
    let z : e ≡ 0 + e = omega arith in
    ap (λ (i : ℕ). ltb e EVENTS && bit (get_or (copied l w t) i 0) p) z
    ∙ ap (λ (m : ℕ). ltb e EVENTS && bit m p) (writes_in l 0 EVENTS (λ i. get_or w (place_of t i) 0) e k (omega arith)))
    (λ (k : ¬ (e < EVENTS)). rw (le-ltb e EVENTS (omega arith)) refl)

-- row t holds nothing, and the others what they held
pub cleared_is : (w : List ℕ) (t : ℕ) → length w ≡ WAITING_NUMBERS → (k e p : ℕ) → waiting_of (cleared w t) k e p ≡ (not (eqb k (row t)) && waiting_of w k e p)
cleared_is w t h k e p =
    by_cases (dec_lt e EVENTS)
    (λ (l : e < EVENTS).
    ⊎_elim
    (λ (s : eqb k (row t) ≡ true).
    let z : k ≡ row t = eqb-true k (row t) s in
    rw (s, lt-ltb e EVENTS l, z) (ap (λ (m : ℕ). bit m p) (writes_in w (EVENTS * row t) EVENTS (λ i. 0) e l (omega arith)) ∙ bit_none p))
    (λ (s : eqb k (row t) ≡ false).
    let z : ¬ (k ≡ row t) = eqb-false k (row t) s in
    rw (s, lt-ltb e EVENTS l) (ap (λ (m : ℕ). bit m p) (writes_out w (EVENTS * row t) EVENTS (λ i. 0) (EVENTS * k + e) (λ j m q. z (omega arith)))))
    (test (eqb k (row t))))
    (λ (l : ¬ (e < EVENTS)). rw (le-ltb e EVENTS (omega arith)) (sym (and-false (not (eqb k (row t))))))
