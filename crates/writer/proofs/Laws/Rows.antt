-- The reader's row of a frame, byte by byte: where byte k of the row stands in the frame.
-- Assumes nothing.
use Rattle.std.specs.Prelude.{◌≡◌, cond, ℕ, suc, ◌+◌, ◌-◌, ◌≤◌, ◌<◌, ltb}
use Rattle.std.proofs.Math.Path.{refl, ap}
use Rattle.std.proofs.Common.{◌∙◌}
use mathlib.Core.List.{List}
use native.Mathlib.Omega.{arith}
use borrow.Author.Tests.{lt-ltb, le-ltb}
use Rattle.tables.specs.Layout.{PERIODIC_BYTES, TRIGGER_BYTES, byte_at}
use Rattle.loops.specs.Tested.{tabulate}
use Rattle.loops.specs.Laws.Levels.{get_d_tabulate}
use Rattle.periodic_frames.specs.Row.{periodic_row}
use Rattle.trigger_frames.specs.Row.{placed, event_place, condition_place, last_place, trigger_row}

-- a periodic row's bytes stand one later in the frame, after the kind
pub periodic_at_lem : (f : List ℕ) (k : ℕ) → k < PERIODIC_BYTES → byte_at (periodic_row f) k ≡ byte_at f (suc k)
unfolding periodic_row tabulate
periodic_at_lem f k h =
    let e : periodic_row f ≡ tabulate PERIODIC_BYTES (λ j. byte_at f (suc j)) = refl in
    ap (λ (r : List ℕ). byte_at r k) e ∙ get_d_tabulate PERIODIC_BYTES (λ j. byte_at f (suc j)) k h

-- byte k of a trigger's row: the counts, the event places, the condition places, and what stands last
abbrev row_byte : List ℕ → ℕ → ℕ
row_byte f k = cond (ltb k 2) (byte_at f (suc k)) (cond (ltb k 6) (event_place f (k - 2)) (cond (ltb k 10) (condition_place f (k - 6)) (last_place f (k - 10))))

module _ (f : List ℕ) where
  trigger_at_lem : (k : ℕ) → k < TRIGGER_BYTES → byte_at (trigger_row f) k ≡ row_byte f k
  unfolding trigger_row tabulate
  trigger_at_lem k h =
      let e : trigger_row f ≡ tabulate TRIGGER_BYTES (row_byte f) = refl in
      ap (λ (r : List ℕ). byte_at r k) e ∙ get_d_tabulate TRIGGER_BYTES (row_byte f) k h

  -- the two counts
  pub count_at : (k : ℕ) → k < 2 → byte_at (trigger_row f) k ≡ byte_at f (suc k)
  count_at k h = trigger_at_lem k (omega arith) ∙ rw (lt-ltb k 2 h)

  -- an event below the event count
  pub event_at : (j : ℕ) → j < 4 → j < byte_at f 1 → byte_at (trigger_row f) (2 + j) ≡ byte_at f (3 + j)
  unfolding event_place placed
  event_at j h l =
      let e : 2 + j - 2 ≡ j = omega arith in
      trigger_at_lem (2 + j) (omega arith)
      ∙ rw (le-ltb (2 + j) 2 (omega arith), lt-ltb (2 + j) 6 (omega arith), e, lt-ltb j (byte_at f 1) l)

  -- and past it
  pub event_past : (j : ℕ) → j < 4 → byte_at f 1 ≤ j → byte_at (trigger_row f) (2 + j) ≡ 0
  unfolding event_place placed
  event_past j h l =
      let e : 2 + j - 2 ≡ j = omega arith in
      trigger_at_lem (2 + j) (omega arith)
      ∙ rw (le-ltb (2 + j) 2 (omega arith), lt-ltb (2 + j) 6 (omega arith), e, le-ltb j (byte_at f 1) l)

  -- a condition below the condition count
  pub condition_at : (j : ℕ) → j < 4 → j < byte_at f 2 → byte_at (trigger_row f) (6 + j) ≡ byte_at f (3 + byte_at f 1 + j)
  unfolding condition_place placed
  condition_at j h l =
      let e : 6 + j - 6 ≡ j = omega arith in
      trigger_at_lem (6 + j) (omega arith)
      ∙ rw (le-ltb (6 + j) 2 (omega arith), le-ltb (6 + j) 6 (omega arith), lt-ltb (6 + j) 10 (omega arith), e, lt-ltb j (byte_at f 2) l)

  -- and past it
  pub condition_past : (j : ℕ) → j < 4 → byte_at f 2 ≤ j → byte_at (trigger_row f) (6 + j) ≡ 0
  unfolding condition_place placed
  condition_past j h l =
      let e : 6 + j - 6 ≡ j = omega arith in
      trigger_at_lem (6 + j) (omega arith)
      ∙ rw (le-ltb (6 + j) 2 (omega arith), le-ltb (6 + j) 6 (omega arith), lt-ltb (6 + j) 10 (omega arith), e, le-ltb j (byte_at f 2) l)

  -- head, priority and delay
  pub last_at_lem : (j : ℕ) → j < 3 → byte_at (trigger_row f) (10 + j) ≡ byte_at f (3 + byte_at f 1 + byte_at f 2 + j)
  unfolding last_place
  last_at_lem j h =
      let e : 10 + j - 10 ≡ j = omega arith in
      trigger_at_lem (10 + j) (omega arith)
      ∙ rw (le-ltb (10 + j) 2 (omega arith), le-ltb (10 + j) 6 (omega arith), le-ltb (10 + j) 10 (omega arith), e)
