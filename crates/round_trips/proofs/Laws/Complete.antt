-- Every sheet in good order is said by some tables of bytes: each field in as many bytes as its row has for it. So the writer writes it, and the reader reads it.
-- Assumes nothing.
use Rattle.std.specs.Prelude.{◌≡◌, List, [], ◌∷◌, ℕ, zero, suc, ◌+◌, ◌*◌, ◌/◌, ◌%◌, ◌≤◌, ◌<◌, length}
use Rattle.std.proofs.Math.Path.{refl}
use Rattle.std.proofs.Common.{◌∙◌, ⊎_elim, arith}
use Rattle.theory.specs.Numbers.{LAST_INSTANT, NO_END, PERIODIC_ROWS, TRIGGER_ROWS}
use Rattle.theory.specs.Sheet.{Periodic, Trigger, Sheet, GoodOrder}
use Rattle.theory.specs.Graph.{NoLoop}
use Rattle.theory.specs.Used.{SameTrigger, SameUsed}
use Rattle.theory.proofs.Laws.Limits.{PeriodicWithin, TriggerWithin, periodic_says, trigger_says}
use Rattle.theory.proofs.Laws.Used.{good_used, noloop_used}
use Rattle.tables.specs.Layout.{PERIODIC_BYTES, TRIGGER_BYTES, PERIODIC_TABLE, TRIGGER_TABLE, byte_at, two, four, periodic_at, trigger_from, trigger_at, sheet_of}
use Rattle.tables.specs.Lent.{Rules, rules, sheet_in}
use Rattle.loops.specs.Tested.{tabulate}
use Rattle.loops.specs.Laws.Levels.{length_tabulate, get_d_tabulate}
use Rattle.prints.specs.Laws.Reads.{Bytes, bytes_none, bytes_cons}
use Rattle.prints.specs.Laws.Numbers.{four_bytes}
use Rattle.writer.proofs.Laws.Meets.{bytes_tabulate}

-- ---- rows as bytes

-- the low byte of each number
abbrev low_bytes : List ℕ → List ℕ
low_bytes [] = []
low_bytes (n ∷ l) = n % 256 ∷ low_bytes l

low_bytes_lem : (l : List ℕ) → Bytes (low_bytes l)
low_bytes_lem [] = bytes_none
low_bytes_lem (n ∷ l) = bytes_cons (n % 256) (low_bytes l) (omega arith) (low_bytes_lem l)

abbrev periodic_numbers : Periodic → List ℕ
periodic_numbers w =
    w.begin / 16777216 ∷ w.begin / 65536 ∷ w.begin / 256 ∷ w.begin
    ∷ w.end / 16777216 ∷ w.end / 65536 ∷ w.end / 256 ∷ w.end
    ∷ w.period / 256 ∷ w.period ∷ w.first / 256 ∷ w.first ∷ w.run / 256 ∷ w.run ∷ w.event ∷ w.priority ∷ []

abbrev trigger_numbers : Trigger → List ℕ
trigger_numbers g =
    g.event_count ∷ g.condition_count ∷ g.event 0 ∷ g.event 1 ∷ g.event 2 ∷ g.event 3
    ∷ g.condition 0 ∷ g.condition 1 ∷ g.condition 2 ∷ g.condition 3 ∷ g.head ∷ g.priority ∷ g.delay ∷ []

abbrev periodic_bytes : Periodic → List ℕ
periodic_bytes w = low_bytes (periodic_numbers w)

abbrev trigger_bytes : Trigger → List ℕ
trigger_bytes g = low_bytes (trigger_numbers g)

-- a number of two bytes is its bytes
two_bytes : (n : ℕ) → n < 65536 → 256 * (n / 256 % 256) + n % 256 ≡ n
two_bytes n h = omega arith

-- ---- tables

-- of so many bytes in all, w to a row
abbrev table_of : ℕ → ℕ → (ℕ → List ℕ) → List ℕ
table_of size w row = tabulate size (λ k. byte_at (row (k / w)) (k % w))

module _ (sh : Sheet) where
  abbrev periodics : List ℕ
  periodics = table_of PERIODIC_TABLE PERIODIC_BYTES (λ i. periodic_bytes (sh.periodic i))

  abbrev triggers : List ℕ
  triggers = table_of TRIGGER_TABLE TRIGGER_BYTES (λ i. trigger_bytes (sh.trigger i))

  -- the sheet's rows as they are lent
  abbrev pub said : Rules
  said = rules (record { roles = sh.role_count; periodics = sh.periodic_count; triggers = sh.trigger_count }) periodics triggers

  pub said_periodic_bytes : Bytes periodics
  said_periodic_bytes = bytes_tabulate PERIODIC_TABLE (λ k. byte_at (periodic_bytes (sh.periodic (k / PERIODIC_BYTES))) (k % PERIODIC_BYTES)) (λ k. low_bytes_lem (periodic_numbers (sh.periodic (k / PERIODIC_BYTES))) (k % PERIODIC_BYTES))

  pub said_trigger_bytes : Bytes triggers
  said_trigger_bytes = bytes_tabulate TRIGGER_TABLE (λ k. byte_at (trigger_bytes (sh.trigger (k / TRIGGER_BYTES))) (k % TRIGGER_BYTES)) (λ k. low_bytes_lem (trigger_numbers (sh.trigger (k / TRIGGER_BYTES))) (k % TRIGGER_BYTES))

  pub said_lengths : (length periodics ≡ PERIODIC_TABLE) × (length triggers ≡ TRIGGER_TABLE)
  said_lengths = (length_tabulate PERIODIC_TABLE _, length_tabulate TRIGGER_TABLE _)

  -- byte j of row i
  periodic_byte : (i j x : ℕ) → i < PERIODIC_ROWS → j < PERIODIC_BYTES → x ≡ PERIODIC_BYTES * i + j → byte_at periodics x ≡ byte_at (periodic_bytes (sh.periodic i)) j
  periodic_byte i j x h g e =
      let a : x / PERIODIC_BYTES ≡ i = omega arith in
      let b : x % PERIODIC_BYTES ≡ j = omega arith in
      get_d_tabulate PERIODIC_TABLE (λ k. byte_at (periodic_bytes (sh.periodic (k / PERIODIC_BYTES))) (k % PERIODIC_BYTES)) x (omega arith)
      ∙ (λ t. byte_at (periodic_bytes (sh.periodic (a t))) (b t))

  trigger_byte : (i j x : ℕ) → i < TRIGGER_ROWS → j < TRIGGER_BYTES → x ≡ TRIGGER_BYTES * i + j → byte_at triggers x ≡ byte_at (trigger_bytes (sh.trigger i)) j
  trigger_byte i j x h g e =
      let a : x / TRIGGER_BYTES ≡ i = omega arith in
      let b : x % TRIGGER_BYTES ≡ j = omega arith in
      get_d_tabulate TRIGGER_TABLE (λ k. byte_at (trigger_bytes (sh.trigger (k / TRIGGER_BYTES))) (k % TRIGGER_BYTES)) x (omega arith)
      ∙ (λ t. byte_at (trigger_bytes (sh.trigger (a t))) (b t))

  module _ (good : GoodOrder sh) where
    -- ---- each row, field by field

    module _ (i : ℕ) (l : i < sh.periodic_count) where
      abbrev w : Periodic
      w = sh.periodic i

      abbrev at : ℕ
      at = PERIODIC_BYTES * i

      within : PeriodicWithin sh.role_count w
      within = (periodic_says sh.role_count w).0 (good.periodics i l)

      end_short : w.end < 4294967296
      end_short = ⊎_elim (λ (a : (w.begin ≤ w.end) × (w.end ≤ LAST_INSTANT)). omega (arith, a.1)) (λ (a : w.end ≡ NO_END). omega (arith, a)) within.end

      byte : (j x : ℕ) → j < PERIODIC_BYTES → x ≡ at + j → byte_at periodics x ≡ byte_at (periodic_bytes w) j
      byte j x g e = periodic_byte i j x (omega (arith, good.few_periodics)) g e

      pub periodic_there : w ≡ periodic_at periodics i
      unfolding periodic_at
      periodic_there =
          let begins : w.begin ≡ four periodics at =
          omega (arith, four_bytes w.begin (omega (arith, within.begin)), byte 0 at (omega arith) (omega arith), byte 1 (at + 1) (omega arith) refl, byte 2 (at + 2) (omega arith) refl, byte 3 (at + 2 + 1) (omega arith) (omega arith)) in
          let ends : w.end ≡ four periodics (at + 4) =
          omega (arith, four_bytes w.end end_short, byte 4 (at + 4) (omega arith) refl, byte 5 (at + 4 + 1) (omega arith) (omega arith), byte 6 (at + 4 + 2) (omega arith) (omega arith), byte 7 (at + 4 + 2 + 1) (omega arith) (omega arith)) in
          let periods : w.period ≡ two periodics (at + 8) =
          omega (arith, two_bytes w.period (omega (arith, within.period)), byte 8 (at + 8) (omega arith) refl, byte 9 (at + 8 + 1) (omega arith) (omega arith)) in
          let firsts : w.first ≡ two periodics (at + 10) =
          omega (arith, two_bytes w.first (omega (arith, within.first, within.period)), byte 10 (at + 10) (omega arith) refl, byte 11 (at + 10 + 1) (omega arith) (omega arith)) in
          let runs : w.run ≡ two periodics (at + 12) =
          omega (arith, two_bytes w.run (omega (arith, within.run, within.period)), byte 12 (at + 12) (omega arith) refl, byte 13 (at + 12 + 1) (omega arith) (omega arith)) in
          let events : w.event ≡ byte_at periodics (at + 14) = omega (arith, within.event, good.few_roles, byte 14 (at + 14) (omega arith) refl) in
          let priorities : w.priority ≡ byte_at periodics (at + 15) = omega (arith, within.priority, byte 15 (at + 15) (omega arith) refl) in
          λ t. record { begin = begins t; end = ends t; period = periods t; first = firsts t; run = runs t; event = events t; priority = priorities t }

    module _ (i : ℕ) (l : i < sh.trigger_count) where
      abbrev g : Trigger
      g = sh.trigger i

      abbrev from : ℕ
      from = TRIGGER_BYTES * i

      body_within : TriggerWithin sh.role_count g
      body_within = (trigger_says sh.role_count g).0 (good.triggers i l)

      row_byte_lem : (j x : ℕ) → j < TRIGGER_BYTES → x ≡ from + j → byte_at triggers x ≡ byte_at (trigger_bytes g) j
      row_byte_lem j x h e = trigger_byte i j x (omega (arith, good.few_triggers)) h e

      -- one of four places
      event_place_lem : (j : ℕ) → j < 4 → byte_at (trigger_bytes g) (2 + j) ≡ g.event j % 256
      event_place_lem zero h = refl
      event_place_lem (suc zero) h = refl
      event_place_lem (suc (suc zero)) h = refl
      event_place_lem (suc (suc (suc zero))) h = refl
      event_place_lem (suc (suc (suc (suc j)))) h = absurd (omega arith)

      condition_place_lem : (j : ℕ) → j < 4 → byte_at (trigger_bytes g) (6 + j) ≡ g.condition j % 256
      condition_place_lem zero h = refl
      condition_place_lem (suc zero) h = refl
      condition_place_lem (suc (suc zero)) h = refl
      condition_place_lem (suc (suc (suc zero))) h = refl
      condition_place_lem (suc (suc (suc (suc j)))) h = absurd (omega arith)

      pub trigger_there : SameTrigger g (trigger_at triggers i)
      unfolding trigger_from
      trigger_there =
          let u = body_within in
          record {
            event_count = omega (arith, u.few_events, row_byte_lem 0 from (omega arith) (omega arith));
            condition_count = omega (arith, u.few_conditions, row_byte_lem 1 (from + 1) (omega arith) refl);
            events = λ j b. omega (arith, u.events j b, good.few_roles, event_place_lem j (omega (arith, u.few_events)), row_byte_lem (2 + j) (from + 2 + j) (omega (arith, u.few_events)) (omega arith));
            conditions = λ j b. omega (arith, u.conditions j b, good.few_roles, condition_place_lem j (omega (arith, u.few_conditions)), row_byte_lem (6 + j) (from + 6 + j) (omega (arith, u.few_conditions)) (omega arith));
            head = omega (arith, u.head, good.few_roles, row_byte_lem 10 (from + 10) (omega arith) refl);
            priority = omega (arith, u.priority, row_byte_lem 11 (from + 11) (omega arith) refl);
            delay = omega (arith, u.delay, row_byte_lem 12 (from + 12) (omega arith) refl);
          }

    -- THE LAW: these tables say the sheet
    pub said_same : SameUsed sh (sheet_in said)
    unfolding sheet_of
    said_same = record { role_count = refl; periodic_count = refl; trigger_count = refl; periodics = periodic_there; triggers = trigger_there }

    pub said_good : GoodOrder (sheet_in said)
    said_good = good_used sh (sheet_in said) said_same good

    pub said_loopless : NoLoop sh → NoLoop (sheet_in said)
    said_loopless n = noloop_used sh (sheet_in said) said_same n

-- ---- what is the same as the same is the same

pub used_on : (a b d : Sheet) → SameUsed a b → SameUsed b d → SameUsed a d
used_on a b d x y =
    record {
      role_count = x.role_count ∙ y.role_count;
      periodic_count = x.periodic_count ∙ y.periodic_count;
      trigger_count = x.trigger_count ∙ y.trigger_count;
      periodics = λ i l. x.periodics i l ∙ y.periodics i (omega (arith, x.periodic_count));
      triggers = λ i l.
          let s : SameTrigger (a.trigger i) (b.trigger i) = x.triggers i l in
          let t : SameTrigger (b.trigger i) (d.trigger i) = y.triggers i (omega (arith, x.trigger_count)) in
          record {
            event_count = s.event_count ∙ t.event_count;
            condition_count = s.condition_count ∙ t.condition_count;
            events = λ j b. s.events j b ∙ t.events j (omega (arith, s.event_count));
            conditions = λ j b. s.conditions j b ∙ t.conditions j (omega (arith, s.condition_count));
            head = s.head ∙ t.head;
            priority = s.priority ∙ t.priority;
            delay = s.delay ∙ t.delay;
          };
    }
