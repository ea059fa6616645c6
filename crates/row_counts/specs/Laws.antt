-- Where there is room for a row more, the count is below its limit.
-- Assumes nothing.
use Rattle.std.specs.Prelude.{◌≡◌, true, ℕ, ◌<◌}
use Rattle.std.proofs.Common.{arith, ltb-true, eq-eqb, ne_eqb}
use Rattle.kinds.specs.Kinds.{PERIODIC, TRIGGER}
use Rattle.row_counts.specs.Counts.{room_for}

pub room_periodics : (k p t : ℕ) → room_for k p t ≡ true → k ≡ PERIODIC → p < 128
unfolding room_for
room_periodics k p t e h = ltb-true p 128 (rw (eq-eqb k PERIODIC h) at e)

pub room_triggers : (k p t : ℕ) → room_for k p t ≡ true → k ≡ TRIGGER → t < 256
unfolding room_for
room_triggers k p t e h = ltb-true t 256 (rw (ne_eqb k PERIODIC (λ (x : k ≡ PERIODIC). omega arith), eq-eqb k TRIGGER h) at e)
