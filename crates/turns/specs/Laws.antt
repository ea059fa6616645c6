-- What a turn goes by: what joins the buffer. And the sweep along a chain.
-- Assumes nothing.
use Rattle.std.specs.Prelude.{◌≡◌, Bool, true, false, ◌||◌, List, ℕ, ◌+◌, ◌≤◌, ◌<◌, length, get_or}
use Rattle.std.proofs.Common.{sym, ap, ◌∙◌, arith, lt-ltb}
use Rattle.theory.specs.Numbers.{EVENTS, PRIORITIES}
use Rattle.theory.specs.Events.{Events}
use Rattle.theory.specs.Instant.{met}
use Rattle.theory.specs.Solving.{Turn, Swept}
use Rattle.theory.proofs.Laws.Solving.{turn_idle, turn_added, swept_none, swept_turn, swept_past}
use Rattle.tables.specs.Layout.{sheet_of, trigger_at, triggers_of}
use Rattle.tables.specs.Buffers.{bit, events_of}
use Rattle.masks.specs.Masks.{joined_at}
use Rattle.masks.specs.Laws.Joined.{events_joined}
use Rattle.keys.specs.Keys.{KEYS, after_of, first_of, First, Chained}
use Rattle.turns.specs.Turns.{Sweeping}

module _ (l : List ℕ) (e p at mask : ℕ) (place : at ≡ e) (read : mask ≡ get_or l at 0) (event : e < EVENTS) where
  mask_says : events_of l e p ≡ bit mask p
  mask_says = rw (lt-ltb e EVENTS event, ← place) (ap (λ (m : ℕ). bit m p) (sym read))

  -- p:e is there already
  pub put_there : bit mask p ≡ true → Turn true (events_of l) e p false (events_of l)
  put_there h = turn_idle true (events_of l) e p (λ _ _. mask_says ∙ h)

  -- p:e joins it
  pub put_joined : (l' : List ℕ) → l' ≡ joined_at l at p → length l ≡ EVENTS → p < PRIORITIES → bit mask p ≡ false → Turn true (events_of l) e p true (events_of l')
  put_joined l' j n lp h = rw (j, place) (turn_added (events_of l) (events_of (joined_at l e p)) e p event lp (mask_says ∙ h) (events_joined l e p n event lp))

-- ---- the sweep along a chain

module _ (table chains : List ℕ) (n k : ℕ) (X : Events) where
  -- it begins at the first trigger of its key
  pub sweeping_first : (v : ℕ) → v ≡ first_of chains k → k < KEYS → Sweeping table chains n k X v false X
  sweeping_first v e l key h =
      let f : First key n k 0 v = rw e (h.first k l) in
      (f.most, f.there, swept_past (triggers_of n table) key k X 0 v false X f.none (swept_none (triggers_of n table) key k X))

  -- a turn, and on to the next
  pub sweeping_next : (i v : ℕ) (c d : Bool) (Y Y' : Events) → 0 < k → i < n → v ≡ after_of chains i
      → Turn (met Y Y (trigger_at table i)) Y (trigger_at table i).head (trigger_at table i).priority d Y' → Sweeping table chains n k X i c Y → Sweeping table chains n k X v (c || d) Y'
  unfolding sheet_of
  sweeping_next i v c d Y Y' z l e t w key h =
      let at = w key h in
      let f : First key n k (i + 1) v = rw (e, ← at.1 l) (h.after i (omega arith) l) in (
        f.most,
        f.there,
        swept_past (triggers_of n table) key k X (i + 1) v (c || d) Y' f.none (swept_turn (triggers_of n table) key k X i c Y d Y' z l (at.1 l) at.2 t),
      )

  -- past the last trigger it is over
  pub sweeping_end : (i : ℕ) (c : Bool) (Y : Events) → n ≤ i → Sweeping table chains n k X i c Y → (key : ℕ → ℕ) → Chained key n 0 chains → Swept (triggers_of n table) key k X n c Y
  sweeping_end i c Y l w key h =
      let at = w key h in
      let e : i ≡ n = omega (arith, at.0) in
      rw e at at.2
