-- A row that is pasted into its table has there the bytes that it had by itself, and the rows before it have theirs; and rows of the same bytes say the same.
-- Assumes nothing.
use Rattle.std.specs.Prelude.{◌≡◌, refl, true, List, ◌++◌, ℕ, ◌+◌, ◌*◌, ◌≤◌, ◌<◌, length, take, drop}
use Rattle.std.proofs.Common.{sym, ap, ◌∙◌, arith, length-take-le, get_or-append-add, get_or-take}
use Rattle.std.proofs.Math.ListN.{get_or-append}
use Rattle.std.proofs.Math.Seq.{paste, length_paste_head}
use Rattle.theory.specs.Sheet.{Trigger, trigger_fits}
use Rattle.theory.proofs.Laws.Limits.{TriggerWithin, trigger_says}
use Rattle.tables.specs.Layout.{PERIODIC_BYTES, TRIGGER_BYTES, byte_at, two, four, periodic_at, trigger_from}

-- ---- bytes of a pasted row

-- the w bytes of a from i on are those of b from j on
abbrev pub SameBytes : ℕ → List ℕ → ℕ → List ℕ → ℕ → Type 0
SameBytes w a i b j = (k : ℕ) → k < w → byte_at a (i + k) ≡ byte_at b (j + k)

module _ (table row : List ℕ) (at w : ℕ) (wide : length row ≡ w) (room : at + w ≤ length table) where
  -- where it was pasted
  pub here : SameBytes w (paste table at row w) at row 0
  here k l =
      let a : List ℕ = take at table in
      let r : List ℕ = take w row in
      let n : length a ≡ at = length-take-le at table (omega arith) in
      let e : at + k ≡ length a + k = omega arith in
      let z : 0 + k ≡ k = omega arith in
      ap (λ (x : ℕ). byte_at (paste table at row w) x) e
      ∙ get_or-append (a ++ r) (drop (at + w) table) 0 (length a + k) (omega (arith, length_paste_head table at row w (omega arith) (omega arith)))
      ∙ get_or-append-add a r k 0
      ∙ get_or-take w row k 0 l
      ∙ ap (byte_at row) (sym z)

  -- before it
  pub before : (i m : ℕ) → i + m ≤ at → SameBytes m (paste table at row w) i table i
  before i m h k l =
      let a : List ℕ = take at table in
      let r : List ℕ = take w row in
      let n : length a ≡ at = length-take-le at table (omega arith) in
      get_or-append (a ++ r) (drop (at + w) table) 0 (i + k) (omega (arith, length_paste_head table at row w (omega arith) (omega arith)))
      ∙ get_or-append a r 0 (i + k) (omega arith)
      ∙ get_or-take at table (i + k) 0 (omega arith)

-- ---- rows of the same bytes

module _ (w : ℕ) (a b : List ℕ) (i j : ℕ) (same : SameBytes w a i b j) where
  byte_same : (x y k : ℕ) → x ≡ i + k → y ≡ j + k → k < w → byte_at a x ≡ byte_at b y
  byte_same x y k e f l = ap (byte_at a) e ∙ same k l ∙ ap (byte_at b) (sym f)

  two_same : (x y k : ℕ) → x ≡ i + k → y ≡ j + k → k + 1 < w → two a x ≡ two b y
  two_same x y k e f l =
      let h : byte_at a x ≡ byte_at b y = byte_same x y k e f (omega arith) in
      let m : byte_at a (x + 1) ≡ byte_at b (y + 1) = byte_same (x + 1) (y + 1) (k + 1) (omega arith) (omega arith) l in
      omega arith

  four_same : (x y k : ℕ) → x ≡ i + k → y ≡ j + k → k + 3 < w → four a x ≡ four b y
  four_same x y k e f l =
      let h : two a x ≡ two b y = two_same x y k e f (omega arith) in
      let m : two a (x + 2) ≡ two b (y + 2) = two_same (x + 2) (y + 2) (k + 2) (omega arith) (omega arith) (omega arith) in
      omega arith

pub periodic_same : (a b : List ℕ) (i j : ℕ) → SameBytes PERIODIC_BYTES a (PERIODIC_BYTES * i) b (PERIODIC_BYTES * j) → periodic_at a i ≡ periodic_at b j
unfolding periodic_at
periodic_same a b i j s =
    let x : ℕ = PERIODIC_BYTES * i in
    let y : ℕ = PERIODIC_BYTES * j in
    let one : (k : ℕ) → k < PERIODIC_BYTES → byte_at a (x + k) ≡ byte_at b (y + k) = s in
    let double : (k : ℕ) → k + 1 < PERIODIC_BYTES → two a (x + k) ≡ two b (y + k) = λ k. two_same PERIODIC_BYTES a b x y s (x + k) (y + k) k refl refl in
    let begins : four a x ≡ four b y = four_same PERIODIC_BYTES a b x y s x y 0 (omega arith) (omega arith) (omega arith) in
    let ends : four a (x + 4) ≡ four b (y + 4) = four_same PERIODIC_BYTES a b x y s (x + 4) (y + 4) 4 refl refl (omega arith) in
    λ t.
    record {
      begin = begins t;
      end = ends t;
      period = double 8 (omega arith) t;
      first = double 10 (omega arith) t;
      run = double 12 (omega arith) t;
      event = one 14 (omega arith) t;
      priority = one 15 (omega arith) t;
    }

-- a trigger looks at no byte past its own: it has at most 4 events and 4 conditions
pub trigger_same : (n : ℕ) (a b : List ℕ) (x y : ℕ) → SameBytes TRIGGER_BYTES b y a x → trigger_fits n (trigger_from a x) ≡ true → trigger_fits n (trigger_from b y) ≡ true
unfolding trigger_from
trigger_same n a b x y s h =
    let g : Trigger = trigger_from a x in
    let u : TriggerWithin n g = (trigger_says n g).0 h in
    let byte : (i j k : ℕ) → i ≡ y + k → j ≡ x + k → k < TRIGGER_BYTES → byte_at b i ≡ byte_at a j = byte_same TRIGGER_BYTES b a y x s in
    let events : byte_at b y ≡ byte_at a x = byte y x 0 (omega arith) (omega arith) (omega arith) in
    let conditions : byte_at b (y + 1) ≡ byte_at a (x + 1) = s 1 (omega arith) in
    (trigger_says n (trigger_from b y)).1
    (record {
      some_event = omega (arith, u.some_event, events);
      few_events = omega (arith, u.few_events, events);
      few_conditions = omega (arith, u.few_conditions, conditions);
      events = λ j l.
          let inside : 2 + j < TRIGGER_BYTES = omega (arith, u.few_events, events) in
          omega (arith, u.events j (omega (arith, events)), byte (y + 2 + j) (x + 2 + j) (2 + j) (omega arith) (omega arith) inside);
      conditions = λ j l.
          let inside : 6 + j < TRIGGER_BYTES = omega (arith, u.few_conditions, conditions) in
          omega (arith, u.conditions j (omega (arith, conditions)), byte (y + 6 + j) (x + 6 + j) (6 + j) (omega arith) (omega arith) inside);
      head = omega (arith, u.head, s 10 (omega arith));
      priority = omega (arith, u.priority, s 11 (omega arith));
      delay = omega (arith, u.delay, s 12 (omega arith));
    })
