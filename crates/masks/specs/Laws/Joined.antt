-- What joins a mask or a buffer joins the set that it stands for, and nothing else changes.
-- Assumes nothing.
use Rattle.std.specs.Prelude.{◌≡◌, refl, Bool, true, false, ◌&&◌, ◌||◌, List, ℕ, ◌+◌, ◌*◌, ◌^◌, ◌<◌, eqb, ltb, length, get_or}
use Rattle.std.proofs.Common.{sym, ap, ◌∙◌, ⊎_elim, arith, length-set, get_or-set_same, get_or-set_other, ltb-true, ltb-false, lt-ltb, eqb-true, eq-eqb, ne_eqb}
use Rattle.std.proofs.Math.Bool.{or-false, and-false, and_assoc}
use Rattle.std.specs.Int.Bits.{bit_or}
use Rattle.std.proofs.lemmas.Bool.{eqb-false}
use Rattle.theory.specs.Numbers.{EVENTS, PRIORITIES, WAITING_ROWS, WAITING_NUMBERS}
use Rattle.theory.specs.Sheet.{is}
use Rattle.theory.proofs.Laws.Tests.{and_left, and_right, and_both, test, bool_ext}
use Rattle.tables.specs.Buffers.{bit, events_of, waiting_of}
use Rattle.masks.specs.Masks.{with_priority, joined_at}
use Rattle.masks.specs.Laws.Bits.{bit_or_lem, bit_pow}

-- ---- in a number

pub bit_joined : (n p q : ℕ) → bit (bit_or n (2 ^ p)) q ≡ (bit n q || eqb p q)
bit_joined n p q = bit_or_lem n (2 ^ p) q ∙ ap (λ (b : Bool). bit n q || b) (bit_pow p q)

-- the mask's priorities, and p
priority_joined : (m p q : ℕ) → p < PRIORITIES → bit (with_priority m p) q ≡ (bit m q || eqb p q)
unfolding with_priority
priority_joined m p q h = rw (lt-ltb p PRIORITIES h) (bit_joined m p q)

-- ---- in a buffer

pub joined_size : (l : List ℕ) (at p : ℕ) → length (joined_at l at p) ≡ length l
joined_size l at p = length-set l at (with_priority (get_or l at 0) p)

number_joined : (l : List ℕ) (i p j q : ℕ) → i < length l → p < PRIORITIES → bit (get_or (joined_at l i p) j 0) q ≡ (bit (get_or l j 0) q || (eqb i j && eqb p q))
number_joined l i p j q h k =
    let m : ℕ = with_priority (get_or l i 0) p in
    ⊎_elim
    (λ (t : eqb i j ≡ true).
    let e : i ≡ j = eqb-true i j t in
    rw (t, ← e) (ap (λ (x : ℕ). bit x q) (get_or-set_same l i m 0 h) ∙ priority_joined (get_or l i 0) p q k))
    (λ (f : eqb i j ≡ false).
    rw (f, or-false) (ap (λ (x : ℕ). bit x q) (get_or-set_other l i j m 0 (λ e. eqb-false i j f (sym e)))))
    (test (eqb i j))

-- the number i is of event e, and j of event e'; `row` says that they are of one row
event_joined : (l : List ℕ) (i e p : ℕ) → i < length l → e < EVENTS → p < PRIORITIES
    → (j e' p' : ℕ) (row : Bool) → (e' < EVENTS → eqb i j ≡ (row && eqb e e'))
    → (ltb e' EVENTS && bit (get_or (joined_at l i p) j 0) p') ≡ ((ltb e' EVENTS && bit (get_or l j 0) p') || (row && is e p e' p'))
event_joined l i e p h he hp j e' p' row same =
    ⊎_elim
    (λ (t : ltb e' EVENTS ≡ true). rw (t, ← and_assoc row (eqb e e') (eqb p p'), ← same (ltb-true e' EVENTS t)) (number_joined l i p j p' h hp))
    (λ (f : ltb e' EVENTS ≡ false).
    let o : eqb e e' ≡ false = ne_eqb e e' (λ x. omega (arith, ltb-false e' EVENTS f)) in
    rw (f, o) (sym (and-false row)))
    (test (ltb e' EVENTS))

-- an events buffer's members, and p:e
pub events_joined : (l : List ℕ) (e p : ℕ) → length l ≡ EVENTS → e < EVENTS → p < PRIORITIES
    → (e' p' : ℕ) → events_of (joined_at l e p) e' p' ≡ (events_of l e' p' || is e p e' p')
events_joined l e p n he hp e' p' = event_joined l e e p (omega arith) he hp e' e' p' true (λ _. refl)

-- one number for a row and an event says both
place_eqb : (k e k' e' : ℕ) → e < EVENTS → e' < EVENTS → eqb (EVENTS * k + e) (EVENTS * k' + e') ≡ (eqb k k' && eqb e e')
place_eqb k e k' e' h h' =
    bool_ext (eqb (EVENTS * k + e) (EVENTS * k' + e')) (eqb k k' && eqb e e')
    (λ t.
    let x : EVENTS * k + e ≡ EVENTS * k' + e' = eqb-true _ _ t in
    and_both (eq-eqb k k' (omega arith)) (eq-eqb e e' (omega arith)))
    (λ t.
    eq-eqb (EVENTS * k + e) (EVENTS * k' + e')
    (omega (arith, eqb-true k k' (and_left (eqb k k') (eqb e e') t), eqb-true e e' (and_right (eqb k k') (eqb e e') t))))

-- a waiting buffer's members, and p:e in row k
pub waiting_joined : (l : List ℕ) (k e p : ℕ) → length l ≡ WAITING_NUMBERS → k < WAITING_ROWS → e < EVENTS → p < PRIORITIES
    → (k' e' p' : ℕ) → waiting_of (joined_at l (EVENTS * k + e) p) k' e' p' ≡ (waiting_of l k' e' p' || (eqb k k' && is e p e' p'))
waiting_joined l k e p n hk he hp k' e' p' =
    event_joined l (EVENTS * k + e) e p (omega arith) he hp (EVENTS * k' + e') e' p' (eqb k k') (place_eqb k e k' e' he)
