-- A row that is within its limits is said by one line at most. Its kind fixes how many bytes the line's frame has, the reader's row fixes them all but the check, and CHECK fixes the check; and the bytes
-- of a framed line tell the line.
-- Assumes nothing.
use Rattle.std.specs.Prelude.{◌≡◌, refl, List, [], ◌∷◌, ℕ, zero, suc, ◌+◌, ◌-◌, ◌*◌, ◌%◌, ◌≤◌, ◌<◌, length}
use Rattle.std.proofs.Math.Path.{sym}
use Rattle.std.proofs.Common.{ap, ◌∙◌, arith}
use Rattle.std.proofs.Math.Logic.{by_cases}
use Rattle.std.proofs.Math.Decide.{dec_lt}
use borrow.Author.Tests.{eqb-true, lt-ltb, le-ltb}
use Rattle.theory.specs.Numbers.{BODY_EVENTS, BODY_CONDITIONS}
use Rattle.frames.specs.Frame.{bytes_of, sum, checked}
use Rattle.tables.specs.Layout.{PERIODIC_BYTES, TRIGGER_BYTES, byte_at, two, trigger_from, trigger_at}
use Rattle.tables.specs.Used.{UsedByte}
use Rattle.kinds.specs.Kinds.{HEADER, PERIODIC, TRIGGER, END, size_of}
use Rattle.prints.specs.Laws.Reads.{Bytes}
use Rattle.prints.specs.Laws.Back.{bytes_are, line_one}
use Rattle.writer.specs.RowLines.{GoodLine, HeaderLine, PeriodicLine, TriggerLine, EndLine}
use Rattle.writer.specs.Made.{row_place}
use Rattle.writer.proofs.Laws.Rows.{periodic_at_lem, count_at, event_at, condition_at, last_at_lem}

-- ---- frames

-- two frames of one length that agree in all but their last byte, where a multiple of 256 is left of both sums
last_same : (s : ℕ) (f g : List ℕ) → length f ≡ length g → ((k : ℕ) → suc k < length f → byte_at f k ≡ byte_at g k) → Bytes f → Bytes g
    → (s + sum f) % 256 ≡ 0 → (s + sum g) % 256 ≡ 0 → f ≡ g
last_same s [] [] n same p q u v = refl
last_same s [] (b ∷ g) n same p q u v = absurd (omega arith)
last_same s (a ∷ f) [] n same p q u v = absurd (omega arith)
last_same s (a ∷ []) (b ∷ []) n same p q u v = let e : a ≡ b = omega (arith, p 0, q 0, u, v) in λ i. e i ∷ []
last_same s (a ∷ []) (b ∷ y ∷ g) n same p q u v = absurd (omega arith)
last_same s (a ∷ x ∷ f) (b ∷ []) n same p q u v = absurd (omega arith)
last_same s (a ∷ x ∷ f) (b ∷ y ∷ g) n same p q u v =
    let e : a ≡ b = same 0 (omega arith) in
    let rest : x ∷ f ≡ y ∷ g =
    last_same (s + a) (x ∷ f) (y ∷ g) (omega arith) (λ k h. same (suc k) (omega arith)) (λ k. p (suc k)) (λ k. q (suc k)) (omega arith) (omega (arith, e)) in
    λ i. e i ∷ rest i

module _ (k : ℕ) (l : List ℕ) (x : GoodLine k l) where
  -- how many bytes its frame has
  size_is : length (bytes_of l) ≡ size_of k (byte_at (bytes_of l) 1) (byte_at (bytes_of l) 2)
  size_is = eqb-true _ _ x.size ∙ ap (λ (j : ℕ). size_of j (byte_at (bytes_of l) 1) (byte_at (bytes_of l) 2)) x.is_kind

  sum_is : sum (bytes_of l) % 256 ≡ 0
  unfolding checked
  sum_is = eqb-true _ _ x.check

-- so two good lines of a kind are one, where their frames have one length and agree in all but the check
same_line : (k : ℕ) (l m : List ℕ) → GoodLine k l → GoodLine k m → length (bytes_of l) ≡ length (bytes_of m)
    → ((j : ℕ) → suc j < length (bytes_of l) → byte_at (bytes_of l) j ≡ byte_at (bytes_of m) j) → l ≡ m
same_line k l m x y n same =
    line_one l m x.frame y.frame
    (last_same 0 (bytes_of l) (bytes_of m) n same (bytes_are l) (bytes_are m) (omega (arith, sum_is k l x)) (omega (arith, sum_is k m y)))

-- ---- the header

pub header_size : (roles : ℕ) (l : List ℕ) → HeaderLine roles l → length (bytes_of l) ≡ 4
unfolding size_of
header_size roles l x = size_is HEADER l x.good

pub one_header : (roles : ℕ) (l m : List ℕ) → HeaderLine roles l → HeaderLine roles m → l ≡ m
one_header roles l m x y = same_line HEADER l m x.good y.good (header_size roles l x ∙ sym (header_size roles m y)) same
  where
    same : (j : ℕ) → suc j < length (bytes_of l) → byte_at (bytes_of l) j ≡ byte_at (bytes_of m) j
    same zero h = x.good.is_kind ∙ sym y.good.is_kind
    same (suc zero) h = x.version ∙ sym y.version
    same (suc (suc zero)) h = x.role_count ∙ sym y.role_count
    same (suc (suc (suc j))) h = absurd (omega (arith, h, header_size roles l x))

-- ---- a periodic row

pub periodic_size : (table : List ℕ) (i : ℕ) (l : List ℕ) → PeriodicLine table i l → length (bytes_of l) ≡ 18
unfolding size_of
periodic_size table i l x = size_is PERIODIC l x.good

pub periodic_byte : (table : List ℕ) (i : ℕ) (l : List ℕ) → PeriodicLine table i l → (k : ℕ) → k < PERIODIC_BYTES → byte_at (bytes_of l) (suc k) ≡ byte_at table (PERIODIC_BYTES * i + k)
periodic_byte table i l x k h = sym (periodic_at_lem (bytes_of l) k h) ∙ x.row k h

pub one_periodic : (table : List ℕ) (i : ℕ) (l m : List ℕ) → PeriodicLine table i l → PeriodicLine table i m → l ≡ m
one_periodic table i l m x y = same_line PERIODIC l m x.good y.good (periodic_size table i l x ∙ sym (periodic_size table i m y)) same
  where
    same : (j : ℕ) → suc j < length (bytes_of l) → byte_at (bytes_of l) j ≡ byte_at (bytes_of m) j
    same zero h = x.good.is_kind ∙ sym y.good.is_kind
    same (suc k) h =
        let b : k < PERIODIC_BYTES = omega (arith, h, periodic_size table i l x) in
        periodic_byte table i l x k b ∙ sym (periodic_byte table i m y k b)

-- ---- a trigger

module _ (table : List ℕ) (i : ℕ) where
  abbrev at : ℕ
  at = TRIGGER_BYTES * i

  abbrev events : ℕ
  events = byte_at table at

  abbrev conditions : ℕ
  conditions = byte_at table (at + 1)

  -- which bytes are used: all but the places past the counts
  used_else : (k : ℕ) → k < 2 → UsedByte (trigger_at table i) k
  used_else k h = ((λ a b. absurd (omega arith)), (λ a b. absurd (omega arith)))

  used_event : (j : ℕ) → j < events → j < 4 → UsedByte (trigger_at table i) (2 + j)
  unfolding trigger_from
  used_event j h g = ((λ a b. omega arith), (λ a b. absurd (omega arith)))

  used_condition : (j : ℕ) → j < conditions → UsedByte (trigger_at table i) (6 + j)
  unfolding trigger_from
  used_condition j h = ((λ a b. absurd (omega arith)), (λ a b. omega arith))

  used_last : (j : ℕ) → UsedByte (trigger_at table i) (10 + j)
  used_last j = ((λ a b. absurd (omega arith)), (λ a b. absurd (omega arith)))

  module _ (l : List ℕ) (x : TriggerLine table i l) where
    abbrev f : List ℕ
    f = bytes_of l

    pub event_count : byte_at f 1 ≡ events
    event_count =
        let e : at + 0 ≡ at = omega arith in
        sym (count_at f 0 (omega arith)) ∙ x.row 0 (omega arith) (used_else 0 (omega arith)) ∙ ap (byte_at table) e

    pub condition_count : byte_at f 2 ≡ conditions
    condition_count = sym (count_at f 1 (omega arith)) ∙ x.row 1 (omega arith) (used_else 1 (omega arith))

    pub trigger_size : length f ≡ 7 + events + conditions
    unfolding size_of
    trigger_size = size_is TRIGGER l x.good ∙ (λ t. 7 + event_count t + condition_count t)

    module _ (few_events : events ≤ BODY_EVENTS) (few_conditions : conditions ≤ BODY_CONDITIONS) where
      -- byte j of the frame, where it is in the row
      abbrev Stands : ℕ → Type 0
      Stands j = byte_at f j ≡ byte_at table (at + row_place events conditions j)

      from : (j k : ℕ) → byte_at f j ≡ byte_at table (at + k) → row_place events conditions j ≡ k → Stands j
      from j k e p = e ∙ ap (λ (n : ℕ). byte_at table (at + n)) (sym p)

      count_stands : (k : ℕ) → k < 2 → Stands (suc k)
      unfolding row_place
      count_stands k h =
          from (suc k) k (sym (count_at f k h) ∙ x.row k (omega arith) (used_else k h))
          (rw (lt-ltb (suc k) (3 + events) (omega arith)) (omega arith))

      event_stands : (j : ℕ) → j < events → Stands (3 + j)
      unfolding row_place
      event_stands j h =
          from (3 + j) (2 + j) (sym (event_at f j (omega arith) (omega (arith, event_count))) ∙ x.row (2 + j) (omega arith) (used_event j h (omega arith)))
          (rw (lt-ltb (3 + j) (3 + events) (omega arith)) (omega arith))

      condition_stands : (j : ℕ) → j < conditions → Stands (3 + events + j)
      unfolding row_place
      condition_stands j h =
          let e : 3 + byte_at f 1 + j ≡ 3 + events + j = omega (arith, event_count) in
          from (3 + events + j) (6 + j)
          (ap (byte_at f) (sym e) ∙ sym (condition_at f j (omega arith) (omega (arith, condition_count))) ∙ x.row (6 + j) (omega arith) (used_condition j h))
          (rw (le-ltb (3 + events + j) (3 + events) (omega arith), lt-ltb (3 + events + j) (3 + events + conditions) (omega arith)) (omega arith))

      last_stands : (j : ℕ) → j < 3 → Stands (3 + events + conditions + j)
      unfolding row_place
      last_stands j h =
          let e : 3 + byte_at f 1 + byte_at f 2 + j ≡ 3 + events + conditions + j = omega (arith, event_count, condition_count) in
          from (3 + events + conditions + j) (10 + j)
          (ap (byte_at f) (sym e) ∙ sym (last_at_lem f j h) ∙ x.row (10 + j) (omega arith) (used_last j))
          (rw (le-ltb (3 + events + conditions + j) (3 + events) (omega arith), le-ltb (3 + events + conditions + j) (3 + events + conditions) (omega arith)) (omega arith))

      at_place : (j k : ℕ) → j ≡ k → Stands j → Stands k
      at_place j k e s = rw (← e) s

      -- every byte after the kind and before the check
      pub trigger_byte : (k : ℕ) → k < 5 + events + conditions → Stands (suc k)
      trigger_byte k h =
          by_cases (dec_lt k 2)
          (λ (a : k < 2). count_stands k a)
          (λ (a : ¬ (k < 2)).
          by_cases (dec_lt k (2 + events))
          (λ (b : k < 2 + events). at_place (3 + (k - 2)) (suc k) (omega arith) (event_stands (k - 2) (omega arith)))
          (λ (b : ¬ (k < 2 + events)).
          by_cases (dec_lt k (2 + events + conditions))
          (λ (d : k < 2 + events + conditions). at_place (3 + events + (k - 2 - events)) (suc k) (omega arith) (condition_stands (k - 2 - events) (omega arith)))
          (λ (d : ¬ (k < 2 + events + conditions)).
          at_place (3 + events + conditions + (k - 2 - events - conditions)) (suc k) (omega arith) (last_stands (k - 2 - events - conditions) (omega arith)))))

  pub one_trigger : events ≤ BODY_EVENTS → conditions ≤ BODY_CONDITIONS → (l m : List ℕ) → TriggerLine table i l → TriggerLine table i m → l ≡ m
  one_trigger few_events few_conditions l m x y = same_line TRIGGER l m x.good y.good (trigger_size l x ∙ sym (trigger_size m y)) same
    where
      same : (j : ℕ) → suc j < length (bytes_of l) → byte_at (bytes_of l) j ≡ byte_at (bytes_of m) j
      same zero h = x.good.is_kind ∙ sym y.good.is_kind
      same (suc k) h =
          let b : k < 5 + events + conditions = omega (arith, h, trigger_size l x) in
          trigger_byte l x few_events few_conditions k b ∙ sym (trigger_byte m y few_events few_conditions k b)

-- ---- the end

pub end_size : (n m : ℕ) (l : List ℕ) → EndLine n m l → length (bytes_of l) ≡ 5
unfolding size_of
end_size n m l x = size_is END l x.good

pub one_end : (n m : ℕ) (l k : List ℕ) → EndLine n m l → EndLine n m k → l ≡ k
one_end n m l k x y = same_line END l k x.good y.good (end_size n m l x ∙ sym (end_size n m k y)) same
  where
    -- of a number in two bytes both are fixed
    both : two (bytes_of l) 2 ≡ two (bytes_of k) 2
    both = x.trigger_count ∙ sym y.trigger_count

    same : (j : ℕ) → suc j < length (bytes_of l) → byte_at (bytes_of l) j ≡ byte_at (bytes_of k) j
    same zero h = x.good.is_kind ∙ sym y.good.is_kind
    same (suc zero) h = x.periodic_count ∙ sym y.periodic_count
    same (suc (suc zero)) h = omega (arith, both, bytes_are l 2, bytes_are l 3, bytes_are k 2, bytes_are k 3)
    same (suc (suc (suc zero))) h = omega (arith, both, bytes_are l 2, bytes_are l 3, bytes_are k 2, bytes_are k 3)
    same (suc (suc (suc (suc j)))) h = absurd (omega (arith, h, end_size n m l x))
