-- The limits of document 01's 'Numbers' and 'The sheet', each by its name. (The kinds of frames are in kinds/Kinds and tape_frames/Frame; the day
-- program's limits in day_input/Opening, tape_tests/Tests and day_lines/Lines.)
-- Assumes nothing.
use Rattle.std.specs.Prelude.{ℕ, ◌*◌}

-- ---- 'Numbers'

-- roles are 0 to 63
abbrev pub ROLES : ℕ
ROLES = 64

-- events and conditions are 0 to 127, two for each role
abbrev pub EVENTS : ℕ
EVENTS = 128

-- priorities are 0 to 15
abbrev pub PRIORITIES : ℕ
PRIORITIES = 16

-- the last instant that is stepped
abbrev pub LAST_INSTANT : ℕ
LAST_INSTANT = 16777215

abbrev pub PERIODIC_ROWS : ℕ
PERIODIC_ROWS = 128

abbrev pub TRIGGER_ROWS : ℕ
TRIGGER_ROWS = 256

-- the most requests of one instant
abbrev pub REQUESTS : ℕ
REQUESTS = 32

abbrev pub LONGEST_DELAY : ℕ
LONGEST_DELAY = 60

-- the rows of the waiting buffer: before instant t they stand for t to t + 60
abbrev pub WAITING_ROWS : ℕ
WAITING_ROWS = 61

-- the numbers of the waiting buffer
abbrev pub WAITING_NUMBERS : ℕ
WAITING_NUMBERS = WAITING_ROWS * EVENTS

abbrev pub SHEET_BYTES : ℕ
SHEET_BYTES = 16384

-- ---- 'The sheet'

-- an end that says 'no end'
abbrev pub NO_END : ℕ
NO_END = 4294967295

abbrev pub LONGEST_PERIOD : ℕ
LONGEST_PERIOD = 10080

-- the most events of a trigger
abbrev pub BODY_EVENTS : ℕ
BODY_EVENTS = 4

-- the most conditions of a trigger
abbrev pub BODY_CONDITIONS : ℕ
BODY_CONDITIONS = 4
