-- Tables that are the same in all that is used have the same used rows: each periodic row, and each trigger in what its counts leave in use, where these are within their limits.
-- (A trigger of more than four events or conditions has no place for them. It does not hold what it may, in the one table as in the other.)
-- Assumes nothing.
use Rattle.std.specs.Prelude.{◌≡◌, List, set}
use Rattle.std.proofs.Common.{sym, ap, ap₂, ◌∙◌, arith, length-set, get_or-set_other}
use Prim.Native.Nat.{ℕ, ◌+◌, ◌*◌, ◌≤◌, ◌<◌}
use Rattle.theory.specs.Numbers.{BODY_EVENTS, BODY_CONDITIONS}
use Rattle.theory.specs.Sheet.{trigger_fits}
use Rattle.theory.specs.Used.{SameTrigger}
use Rattle.theory.proofs.Laws.Tests.{bool_ext}
use Rattle.theory.proofs.Laws.Limits.{trigger_says}
use Rattle.theory.proofs.Laws.Used.{fits_used}
use Rattle.tables.specs.Layout.{PERIODIC_BYTES, TRIGGER_BYTES, byte_at, two, four, periodic_at, trigger_from, trigger_at}
use Rattle.tables.specs.Used.{SamePeriodics, UsedByte, SameTriggers}

-- ---- periodic rows

pub periodics_turned : (n : ℕ) (p p' : List ℕ) → SamePeriodics n p p' → SamePeriodics n p' p
periodics_turned n p p' s = record { size = sym s.size; bytes = λ k l. sym (s.bytes k l) }

module _ (n : ℕ) (p p' : List ℕ) (s : SamePeriodics n p p') where
  two_same : (k : ℕ) → k + 1 < PERIODIC_BYTES * n → two p k ≡ two p' k
  two_same k l = ap₂ (λ (x y : ℕ). 256 * x + y) (s.bytes k (omega arith)) (s.bytes (k + 1) (omega arith))

  four_same : (k : ℕ) → k + 3 < PERIODIC_BYTES * n → four p k ≡ four p' k
  four_same k l = ap₂ (λ (x y : ℕ). 65536 * x + y) (two_same k (omega arith)) (two_same (k + 2) (omega arith))

  pub periodic_same : (i : ℕ) → i < n → periodic_at p i ≡ periodic_at p' i
  unfolding periodic_at
  periodic_same i l =
      let at : ℕ = PERIODIC_BYTES * i in
      λ x.
      record {
        begin = four_same at (omega arith) x;
        end = four_same (at + 4) (omega arith) x;
        period = two_same (at + 8) (omega arith) x;
        first = two_same (at + 10) (omega arith) x;
        run = two_same (at + 12) (omega arith) x;
        event = s.bytes (at + 14) (omega arith) x;
        priority = s.bytes (at + 15) (omega arith) x;
      }

-- ---- triggers

module _ (n : ℕ) (t t' : List ℕ) (s : SameTriggers n t t') (i : ℕ) (l : i < n) where
  -- byte m, which is byte k of trigger i
  byte_same : (m k : ℕ) → m ≡ TRIGGER_BYTES * i + k → k < TRIGGER_BYTES → UsedByte (trigger_at t i) k → byte_at t m ≡ byte_at t' m
  byte_same m k e b u = rw e (s.bytes i k l b u)

  event_count_same : (trigger_at t i).event_count ≡ (trigger_at t' i).event_count
  unfolding trigger_from
  event_count_same = byte_same (TRIGGER_BYTES * i) 0 (omega arith) (omega arith) (omega arith)

  condition_count_same : (trigger_at t i).condition_count ≡ (trigger_at t' i).condition_count
  unfolding trigger_from
  condition_count_same = byte_same (TRIGGER_BYTES * i + 1) 1 (omega arith) (omega arith) (omega arith)

  pub trigger_same : (trigger_at t i).event_count ≤ BODY_EVENTS → (trigger_at t i).condition_count ≤ BODY_CONDITIONS → SameTrigger (trigger_at t i) (trigger_at t' i)
  unfolding trigger_from
  trigger_same few_events few_conditions =
      let at : ℕ = TRIGGER_BYTES * i in
      record {
        event_count = event_count_same;
        condition_count = condition_count_same;
        events = λ j b. byte_same (at + 2 + j) (2 + j) (omega arith) (omega arith) (omega arith);
        conditions = λ j b. byte_same (at + 6 + j) (6 + j) (omega arith) (omega arith) (omega arith);
        head = byte_same (at + 10) 10 (omega arith) (omega arith) (omega arith);
        priority = byte_same (at + 11) 11 (omega arith) (omega arith) (omega arith);
        delay = byte_same (at + 12) 12 (omega arith) (omega arith) (omega arith);
      }

  -- it holds what it may, in both or in neither
  pub trigger_fits_same : (role_count : ℕ) → trigger_fits role_count (trigger_at t i) ≡ trigger_fits role_count (trigger_at t' i)
  trigger_fits_same n =
      bool_ext (trigger_fits n (trigger_at t i)) (trigger_fits n (trigger_at t' i))
      (λ h.
      let w = (trigger_says n (trigger_at t i)).0 h in
      sym (fits_used (trigger_at t i) (trigger_at t' i) (trigger_same w.few_events w.few_conditions) n) ∙ h)
      (λ h.
      let w = (trigger_says n (trigger_at t' i)).0 h in
      fits_used (trigger_at t i) (trigger_at t' i)
      (trigger_same (omega (arith, w.few_events, event_count_same)) (omega (arith, w.few_conditions, condition_count_same)))
      n
      ∙ h)

pub triggers_turned : (n : ℕ) (t t' : List ℕ) → SameTriggers n t t' → SameTriggers n t' t
triggers_turned n t t' s =
    record {
      size = sym s.size;
      bytes = λ i k l b u.
          sym (s.bytes i k l b (
            (λ x y. omega (arith, u.0 x y, event_count_same n t t' s i l)),
            (λ x y. omega (arith, u.1 x y, condition_count_same n t t' s i l)),
          ));
    }

-- ---- what stands in unused places may be anything

-- in a row past those that are used
pub periodic_row_free : (n : ℕ) (p : List ℕ) (k x : ℕ) → PERIODIC_BYTES * n ≤ k → SamePeriodics n p (set p k x)
periodic_row_free n p k x h = record { size = sym (length-set p k x); bytes = λ m l. sym (get_or-set_other p k m x 0 (λ e. omega arith)) }

module _ (n : ℕ) (t : List ℕ) (x : ℕ) where
  -- byte m is not used
  byte_free : (m : ℕ) → ((i k : ℕ) → i < n → k < TRIGGER_BYTES → UsedByte (trigger_at t i) k → TRIGGER_BYTES * i + k ≡ m → ⊥) → SameTriggers n t (set t m x)
  byte_free m h = record { size = sym (length-set t m x); bytes = λ i k l b u. sym (get_or-set_other t m (TRIGGER_BYTES * i + k) x 0 (h i k l b u)) }

  pub trigger_row_free : (m : ℕ) → TRIGGER_BYTES * n ≤ m → SameTriggers n t (set t m x)
  trigger_row_free m h = byte_free m (λ i k l b u e. omega arith)

  -- in an event place past the event count,
  pub event_place_free : (i j : ℕ) → (trigger_at t i).event_count ≤ j → j < BODY_EVENTS → SameTriggers n t (set t (TRIGGER_BYTES * i + 2 + j) x)
  event_place_free i j h b =
      byte_free (TRIGGER_BYTES * i + 2 + j) (λ a k l c u e.
      let q : a ≡ i = omega arith in
      omega (arith, u.0 (omega arith) (omega arith), ap (λ (r : ℕ). (trigger_at t r).event_count) q))

  -- and in a condition place past the condition count
  pub condition_place_free : (i j : ℕ) → (trigger_at t i).condition_count ≤ j → j < BODY_CONDITIONS → SameTriggers n t (set t (TRIGGER_BYTES * i + 6 + j) x)
  condition_place_free i j h b =
      byte_free (TRIGGER_BYTES * i + 6 + j) (λ a k l c u e.
      let q : a ≡ i = omega arith in
      omega (arith, u.1 (omega arith) (omega arith), ap (λ (r : ℕ). (trigger_at t r).condition_count) q))
