-- A buffer and the set that it holds determine each other: equal sets are equal buffers, and every set that fits is held.
-- Assumes nothing.
use Rattle.std.specs.Prelude.{◌≡◌, refl, Bool, true, false, ◌&&◌, List, [], ◌∷◌, ℕ, zero, suc, ◌+◌, ◌*◌, ◌/◌, ◌%◌, ◌^◌, ◌<◌, ltb, length, get_or, replicate}
use Rattle.std.proofs.Common.{sym, ap, ◌∙◌, ⊎_elim, pow-suc, arith, pow_mono, ext_get_or, ltb-true, ltb-false, lt-ltb}
use Rattle.std.proofs.lemmas.List.{get_or-replicate}
use Rattle.theory.specs.Numbers.{EVENTS, PRIORITIES, WAITING_ROWS, WAITING_NUMBERS}
use Rattle.theory.specs.Events.{Events}
use Rattle.theory.proofs.Laws.Tests.{test, is_false}
use Rattle.theory.proofs.Laws.OneSolution.{InBuffer}
use Rattle.tables.specs.Buffers.{bit, roles_of, events_of, waiting_of, Narrow}
use Rattle.masks.specs.Laws.Bits.{bit_none, bit_ext, bits_of}

-- ---- equal sets are equal buffers

below_power : (n : ℕ) → n < 2 ^ n
below_power zero = omega arith
below_power (suc n) = omega (arith, pow-suc 2 n, below_power n)

-- numbers with the same bits are equal
number_one : (a b : ℕ) → ((p : ℕ) → bit a p ≡ bit b p) → a ≡ b
number_one a b h =
    bit_ext (a + b) a b
    (omega (arith, below_power a, pow_mono {i = a} {j = a + b} (omega arith)))
    (omega (arith, below_power b, pow_mono {i = b} {j = a + b} (omega arith)))
    (λ p _. h p)

-- a number is determined by its roles
pub roles_one : (a b : ℕ) → ((r : ℕ) → roles_of a r ≡ roles_of b r) → a ≡ b
roles_one = number_one

numbers_one : (l l' : List ℕ) → length l ≡ length l' → ((i p : ℕ) → i < length l → bit (get_or l i 0) p ≡ bit (get_or l' i 0) p) → l ≡ l'
numbers_one l l' n h = ext_get_or 0 l l' n (λ i m. number_one (get_or l i 0) (get_or l' i 0) (λ p. h i p m))

-- where an event is one, its test says nothing
of_event : (e : ℕ) (a b : Bool) → e < EVENTS → (ltb e EVENTS && a) ≡ (ltb e EVENTS && b) → a ≡ b
of_event e a b l h = rw (lt-ltb e EVENTS l) at h

-- an events buffer is determined by its set
pub events_one : (l l' : List ℕ) → length l ≡ EVENTS → length l' ≡ EVENTS → ((e p : ℕ) → events_of l e p ≡ events_of l' e p) → l ≡ l'
events_one l l' n n' h = numbers_one l l' (n ∙ sym n') (λ e p m. of_event e _ _ (omega arith) (h e p))

-- a waiting buffer is determined by the sets of its rows
pub waiting_one : (l l' : List ℕ) → length l ≡ WAITING_NUMBERS → length l' ≡ WAITING_NUMBERS
    → ((k e p : ℕ) → k < WAITING_ROWS → waiting_of l k e p ≡ waiting_of l' k e p) → l ≡ l'
waiting_one l l' n n' h =
    numbers_one l l' (n ∙ sym n') (λ i p m.
    let z : EVENTS * (i / EVENTS) + i % EVENTS ≡ i = omega arith in
    rw (← z) (of_event (i % EVENTS) _ _ (omega arith) (h (i / EVENTS) (i % EVENTS) p (omega arith))))

-- a waiting buffer of zeros holds nothing
pub waiting_none : (k e p : ℕ) → k < WAITING_ROWS → waiting_of (replicate WAITING_NUMBERS 0) k e p ≡ false
waiting_none k e p l =
    ⊎_elim
    (λ (h : ltb e EVENTS ≡ true). rw (h, get_or-replicate {A = ℕ} WAITING_NUMBERS (EVENTS * k + e) 0 0 (omega (arith, ltb-true e EVENTS h))) (bit_none p))
    (λ (h : ltb e EVENTS ≡ false). rw h refl)
    (test (ltb e EVENTS))

-- ---- every set that fits is held

-- some list has the numbers f 0 to f (n − 1)
numbers_of : (n : ℕ) (f : ℕ → ℕ) → (l : List ℕ) × (length l ≡ n) × ((i : ℕ) → i < n → get_or l i 0 ≡ f i)
numbers_of zero f = ([], refl, λ i l. absurd (omega arith))
numbers_of (suc n) f =
    let r = numbers_of n (λ i. f (suc i)) in
    (f 0 ∷ r.0, ap suc r.1, λ i. elim i as (λ k. k < suc n → get_or (f 0 ∷ r.0) k 0 ≡ f k) [ zero ↦ λ l. refl | suc j ↦ λ l. r.2 j (omega arith) ])

-- every set of events that fits is held by a buffer (by `events_one`, by exactly one)
pub buffer_of : (S : Events) → InBuffer S → (l : List ℕ) × (length l ≡ EVENTS) × Narrow 16 l × ((e p : ℕ) → events_of l e p ≡ S e p)
buffer_of S fits =
    let mask : (e : ℕ) → (n : ℕ) × (n < 2 ^ PRIORITIES) × ((p : ℕ) → bit n p ≡ S e p) = λ e. bits_of PRIORITIES (S e) (λ p s. (fits e p s).1) in
    let r = numbers_of EVENTS (λ e. (mask e).0) in
    let says : (e p : ℕ) → events_of r.0 e p ≡ S e p
    = λ e p.
    ⊎_elim
    (λ (t : ltb e EVENTS ≡ true). rw (t, r.2 e (ltb-true e EVENTS t)) ((mask e).2 p))
    (λ (f : ltb e EVENTS ≡ false). rw f (sym (is_false (S e p) (λ s. omega (arith, (fits e p s).0, ltb-false e EVENTS f)))))
    (test (ltb e EVENTS)) in
    (r.0, r.1, (λ e l. let k : e < EVENTS = omega (arith, r.1) in rw (r.2 e k) (mask e).1), says)
