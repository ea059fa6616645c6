-- What a buffer holds after entries have joined it: its set, and the entries that are on.
-- Assumes nothing.
use Rattle.std.specs.Prelude.{◌≡◌, refl, Bool, true, false, cond, ◌&&◌, ◌||◌, List, ℕ, zero, suc, ◌+◌, ◌*◌, ◌<◌, eqb, length}
use Rattle.std.proofs.Common.{sym, ap, ◌∙◌, ⊎_elim, arith}
use Rattle.std.proofs.Math.Bool.{or-true, or-false}
use Rattle.std.proofs.lemmas.Bool.{false≢true}
use Rattle.theory.specs.Numbers.{EVENTS, PRIORITIES, WAITING_ROWS, WAITING_NUMBERS}
use Rattle.theory.specs.Below.{any_below}
use Rattle.theory.specs.Sheet.{is}
use Rattle.theory.proofs.Laws.Tests.{test}
use Rattle.tables.specs.Buffers.{events_of, waiting_of}
use Rattle.masks.specs.Masks.{joined_at}
use Rattle.masks.specs.Joins.{Entry, joins}
use Rattle.masks.specs.Laws.Joined.{joined_size, events_joined, waiting_joined}

-- one member more, where it is on
more : (a b c d x : Bool) → x ≡ true → d ≡ (a || b) → (d || c) ≡ (a || ((x && c) || b))
more true b c d x h e = rw e refl
more false true c d true h e = rw e (sym (or-true c))
more false true c d false h e = rw e (sym (or-true false))
more false false true d true h e = rw e refl
more false false false d true h e = rw e refl
more false false c d false h e = absurd (false≢true h)

-- nothing more, where it is not
same : (a b c d x : Bool) → x ≡ false → d ≡ (a || b) → d ≡ (a || ((x && c) || b))
same a b c d x h e = rw h e

pub joins_size : (l : List ℕ) (n : ℕ) (entry : ℕ → Entry) → length (joins l n entry) ≡ length l
unfolding joins
joins_size l zero entry = refl
joins_size l (suc n) entry =
    let j : List ℕ = joins l n entry in
    ⊎_elim
    (λ (h : (entry n).on ≡ true). rw h (joined_size j (entry n).at (entry n).priority ∙ joins_size l n entry))
    (λ (h : (entry n).on ≡ false). rw h (joins_size l n entry))
    (test (entry n).on)

-- entry i, where it is on, is an event with a priority
pub joins_events : (l : List ℕ) → length l ≡ EVENTS → (n : ℕ) (entry : ℕ → Entry) → ((i : ℕ) → i < n → (entry i).on ≡ true → ((entry i).at < EVENTS) × ((entry i).priority < PRIORITIES))
    → (e p : ℕ) → events_of (joins l n entry) e p ≡ (events_of l e p || any_below n (λ i. (entry i).on && is (entry i).at (entry i).priority e p))
unfolding joins any_below
joins_events l w zero entry f e p = sym (or-false (events_of l e p))
joins_events l w (suc n) entry f e p =
    let j : List ℕ = joins l n entry in
    let x : Entry = entry n in
    let b : Bool = any_below n (λ i. (entry i).on && is (entry i).at (entry i).priority e p) in
    let before : events_of j e p ≡ (events_of l e p || b) = joins_events l w n entry (λ i h. f i (omega arith)) e p in
    let here : Bool = is x.at x.priority e p in
    ⊎_elim
    (λ (h : x.on ≡ true).
    let k = f n (omega arith) h in
    ap (λ (t : Bool). events_of (cond t (joined_at j x.at x.priority) j) e p) h
    ∙ events_joined j x.at x.priority (joins_size l n entry ∙ w) k.0 k.1 e p
    ∙ more (events_of l e p) b here (events_of j e p) x.on h before)
    (λ (h : x.on ≡ false).
    ap (λ (t : Bool). events_of (cond t (joined_at j x.at x.priority) j) e p) h
    ∙ same (events_of l e p) b here (events_of j e p) x.on h before)
    (test x.on)

-- entry i, where it is on, is the event `event i` with a priority in the row `row i`
pub joins_waiting : (l : List ℕ) → length l ≡ WAITING_NUMBERS → (n : ℕ) (entry : ℕ → Entry) (row event : ℕ → ℕ) → ((i : ℕ) → i < n → (entry i).at ≡ EVENTS * row i + event i)
    → ((i : ℕ) → i < n → (entry i).on ≡ true → (row i < WAITING_ROWS) × (event i < EVENTS) × ((entry i).priority < PRIORITIES))
    → (k e p : ℕ) → waiting_of (joins l n entry) k e p ≡ (waiting_of l k e p || any_below n (λ i. (entry i).on && (eqb (row i) k && is (event i) (entry i).priority e p)))
unfolding joins any_below
joins_waiting l w zero entry row event at f k e p = sym (or-false (waiting_of l k e p))
joins_waiting l w (suc n) entry row event at f k e p =
    let j : List ℕ = joins l n entry in
    let x : Entry = entry n in
    let b : Bool = any_below n (λ i. (entry i).on && (eqb (row i) k && is (event i) (entry i).priority e p)) in
    let before : waiting_of j k e p ≡ (waiting_of l k e p || b) = joins_waiting l w n entry row event (λ i h. at i (omega arith)) (λ i h. f i (omega arith)) k e p in
    let here : Bool = eqb (row n) k && is (event n) x.priority e p in
    ⊎_elim
    (λ (h : x.on ≡ true).
    let m = f n (omega arith) h in
    ap (λ (t : Bool). waiting_of (cond t (joined_at j x.at x.priority) j) k e p) h
    ∙ ap (λ (i : ℕ). waiting_of (joined_at j i x.priority) k e p) (at n (omega arith))
    ∙ waiting_joined j (row n) (event n) x.priority (joins_size l n entry ∙ w) m.0 m.1 m.2 k e p
    ∙ more (waiting_of l k e p) b here (waiting_of j k e p) x.on h before)
    (λ (h : x.on ≡ false).
    ap (λ (t : Bool). waiting_of (cond t (joined_at j x.at x.priority) j) k e p) h
    ∙ same (waiting_of l k e p) b here (waiting_of j k e p) x.on h before)
    (test x.on)
