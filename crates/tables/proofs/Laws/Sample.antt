-- The layout at work: row 1 of each table whose bytes are all different, and one number of a waiting buffer.
-- Assumes nothing.
use Rattle.std.specs.Prelude.{◌≡◌, refl, true, false, [], ◌∷◌, ◌++◌, replicate, set}
use Rattle.theory.specs.Sheet.{Trigger}
use Rattle.tables.specs.Layout.{periodic_at, trigger_from, trigger_at}
use Rattle.tables.specs.Buffers.{bit, waiting_of}

pub periodic_sample : periodic_at (replicate 16 0 ++ (1 ∷ 2 ∷ 3 ∷ 4 ∷ 5 ∷ 6 ∷ 7 ∷ 8 ∷ 9 ∷ 10 ∷ 11 ∷ 12 ∷ 13 ∷ 14 ∷ 15 ∷ 16 ∷ [])) 1
    ≡ record { begin = 0x01020304; end = 0x05060708; period = 0x090a; first = 0x0b0c; run = 0x0d0e; event = 15; priority = 16 }
unfolding periodic_at
periodic_sample = refl

abbrev sample : Trigger
sample = trigger_at (replicate 13 0 ++ (1 ∷ 2 ∷ 3 ∷ 4 ∷ 5 ∷ 6 ∷ 7 ∷ 8 ∷ 9 ∷ 10 ∷ 11 ∷ 12 ∷ 13 ∷ [])) 1

pub trigger_sample : (sample.event_count ≡ 1) × (sample.condition_count ≡ 2)
    × (sample.event 0 ≡ 3) × (sample.event 3 ≡ 6) × (sample.condition 0 ≡ 7) × (sample.condition 3 ≡ 10)
    × (sample.head ≡ 11) × (sample.priority ≡ 12) × (sample.delay ≡ 13)
unfolding trigger_from
trigger_sample = (refl, refl, refl, refl, refl, refl, refl, refl, refl)

-- 5:enable 1 (event 3, weight 32) in row 2 is number 2 × 128 + 3
pub waiting_sample : (waiting_of (set (replicate 7808 0) 259 32) 2 3 5 ≡ true) × (waiting_of (set (replicate 7808 0) 259 32) 2 3 4 ≡ false) × (waiting_of (set (replicate 7808 0) 259 32) 1 131 5 ≡ false)
unfolding bit
waiting_sample = (refl, refl, refl)
