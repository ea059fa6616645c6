-- When two sheets are the same in all that is used (document 01, 'What comes back'): unused rows, and the event and condition places of a trigger past its counts, are ignored.
-- Assumes nothing.
use Rattle.std.specs.Prelude.{◌≡◌, ℕ, ◌<◌}
use Rattle.theory.specs.Sheet.{Trigger, Sheet}

-- The same trigger: its counts, the events and the conditions below them, its head event, priority and delay.
pub record SameTrigger (a b : Trigger) : Type 0 where
  pub event_count : a.event_count ≡ b.event_count
  pub condition_count : a.condition_count ≡ b.condition_count
  pub events : (j : ℕ) → j < a.event_count → a.event j ≡ b.event j
  pub conditions : (j : ℕ) → j < a.condition_count → a.condition j ≡ b.condition j
  pub head : a.head ≡ b.head
  pub priority : a.priority ≡ b.priority
  pub delay : a.delay ≡ b.delay

-- The same sheet: the role count, the counts of rows, and the rows below them.
pub record SameUsed (a b : Sheet) : Type 0 where
  pub role_count : a.role_count ≡ b.role_count
  pub periodic_count : a.periodic_count ≡ b.periodic_count
  pub trigger_count : a.trigger_count ≡ b.trigger_count
  pub periodics : (i : ℕ) → i < a.periodic_count → a.periodic i ≡ b.periodic i
  pub triggers : (i : ℕ) → i < a.trigger_count → SameTrigger (a.trigger i) (b.trigger i)
