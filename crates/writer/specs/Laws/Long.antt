-- How long the lines of rows are. An `impl` of the code rests on it, so it stands here and not with the other laws.
-- Assumes nothing.
use Rattle.std.specs.Prelude.{◌≡◌, List, ℕ, suc, ◌+◌, ◌*◌, ◌≤◌, length}
use Rattle.std.proofs.Common.{arith, length-take-le}
use Rattle.tables.specs.Layout.{PERIODIC_BYTES, TRIGGER_BYTES, byte_at}
use Rattle.loops.specs.Laws.Levels.{length_tabulate}
use Rattle.prints.specs.Laws.Lengths.{length_line}
use Rattle.writer.specs.Made.{periodic_frame, row_place, body_size, trigger_whole, body_frame, trigger_frame, periodic_text, trigger_text, AnyRow, FewInBody}

-- a periodic row's line has 37 bytes,
pub periodic_long : (table : List ℕ) (i : ℕ) → length (periodic_text table i) ≡ 37
periodic_long table i =
    omega (arith, length_line (periodic_frame table (PERIODIC_BYTES * i)), length_tabulate PERIODIC_BYTES (λ k. byte_at table (PERIODIC_BYTES * i + k)))

-- and a trigger's 15 and two for each event and condition
pub body_long : (table : List ℕ) (at e c : ℕ) → e ≤ 4 → c ≤ 4 → length (body_frame table at e c) ≡ body_size e c
body_long table at e c h k =
    length-take-le (body_size e c) (trigger_whole table at e c) (omega (arith, length_tabulate TRIGGER_BYTES (λ j. byte_at table (at + row_place e c (suc j)))))

pub trigger_long : (table : List ℕ) (i : ℕ) → byte_at table (TRIGGER_BYTES * i) ≤ 4 → byte_at table (TRIGGER_BYTES * i + 1) ≤ 4 → length (trigger_text table i) ≤ 31
unfolding trigger_frame
trigger_long table i h k =
    let at : ℕ = TRIGGER_BYTES * i in
    let e : ℕ = byte_at table at in
    let c : ℕ = byte_at table (at + 1) in
    omega (arith, length_line (trigger_frame table at), body_long table at e c h k)

-- no line is longer than the longest of its table
pub periodic_short : (table : List ℕ) (i : ℕ) → AnyRow table i → length (periodic_text table i) ≤ 37
periodic_short table i any = omega (arith, periodic_long table i)

pub trigger_short : (table : List ℕ) (i : ℕ) → FewInBody table i → length (trigger_text table i) ≤ 31
trigger_short table i few = trigger_long table i few.0 few.1
