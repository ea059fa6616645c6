-- The layout of the lent tables, and the rows that they hold. A row is its frame's fields in frame order and width, numbers high byte first; a trigger has four places for
-- events and four for conditions. (docs/TABLES.md says the same for a C programmer.)
-- Assumes nothing.
use Rattle.std.specs.Prelude.{List, [], ◌++◌, ℕ, ◌+◌, ◌-◌, ◌*◌, length, get_or, replicate}
use Rattle.theory.specs.Numbers.{PERIODIC_ROWS, TRIGGER_ROWS}
use Rattle.theory.specs.Sheet.{Periodic, Trigger, Sheet}

-- the bytes of a periodic row
abbrev pub PERIODIC_BYTES : ℕ
PERIODIC_BYTES = 16

-- the bytes of a trigger
abbrev pub TRIGGER_BYTES : ℕ
TRIGGER_BYTES = 13

-- the bytes of the periodic table, 128 rows
abbrev pub PERIODIC_TABLE : ℕ
PERIODIC_TABLE = PERIODIC_ROWS * PERIODIC_BYTES

-- the bytes of the trigger table, 256 rows
abbrev pub TRIGGER_TABLE : ℕ
TRIGGER_TABLE = TRIGGER_ROWS * TRIGGER_BYTES

-- a table of n bytes that holds these rows and is otherwise zero
abbrev pub padded : ℕ → List ℕ → List ℕ
padded n rows = rows ++ replicate (n - length rows) 0

-- ---- numbers, high byte first

-- the byte at i, and 0 past the end
abbrev pub byte_at : List ℕ → ℕ → ℕ
byte_at l i = get_or l i 0

abbrev pub two : List ℕ → ℕ → ℕ
two l i = 256 * byte_at l i + byte_at l (i + 1)

abbrev pub four : List ℕ → ℕ → ℕ
four l i = 65536 * two l i + two l (i + 2)

-- ---- rows

-- row i of a periodic table: begin 4, end 4, period 2, first 2, run 2, event 1, priority 1
unfoldable pub periodic_at : List ℕ → ℕ → Periodic
periodic_at table i =
    let at : ℕ = PERIODIC_BYTES * i in
    record {
      begin = four table at;
      end = four table (at + 4);
      period = two table (at + 8);
      first = two table (at + 10);
      run = two table (at + 12);
      event = byte_at table (at + 14);
      priority = byte_at table (at + 15);
    }

-- the trigger whose bytes begin at `at`: event count 1, condition count 1, events 4, conditions 4, head event 1, priority 1, delay 1
unfoldable pub trigger_from : List ℕ → ℕ → Trigger
trigger_from table at =
    record {
      event_count = byte_at table at;
      condition_count = byte_at table (at + 1);
      event = λ j. byte_at table (at + 2 + j);
      condition = λ j. byte_at table (at + 6 + j);
      head = byte_at table (at + 10);
      priority = byte_at table (at + 11);
      delay = byte_at table (at + 12);
    }

-- row i of a trigger table
abbrev pub trigger_at : List ℕ → ℕ → Trigger
trigger_at table i = trigger_from table (TRIGGER_BYTES * i)

-- the sheet that two tables and the three counts stand for
unfoldable pub sheet_of : ℕ → ℕ → ℕ → List ℕ → List ℕ → Sheet
sheet_of role_count periodic_count trigger_count periodics triggers =
    record {
      role_count = role_count;
      periodic_count = periodic_count;
      trigger_count = trigger_count;
      periodic = periodic_at periodics;
      trigger = trigger_at triggers;
    }

-- the triggers of a table alone, as a sheet
abbrev pub triggers_of : ℕ → List ℕ → Sheet
triggers_of n triggers = sheet_of 0 0 n [] triggers
