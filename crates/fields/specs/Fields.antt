-- The fields of a frame: FIELD, and which of them is the first bad one.
-- Assumes nothing.
use Rattle.std.specs.Prelude.{◌≡◌, Bool, true, cond, ◌&&◌, List, [], ◌∷◌, ℕ, ◌+◌, ◌*◌, leb, eqb, take}
use Rattle.theory.specs.Numbers.{ROLES}
use Rattle.theory.specs.Below.{all, first_failing, FailsFirst}
use Rattle.theory.specs.Sheet.{periodic_tests, periodic_fits, trigger_tests, trigger_fits}
use Rattle.tables.specs.Layout.{byte_at, periodic_at, trigger_at}
use Rattle.frames.specs.Frame.{sum}
use Rattle.periodic_frames.specs.Row.{periodic_row}
use Rattle.trigger_frames.specs.Row.{trigger_row}
use Rattle.kinds.specs.Kinds.{HEADER, PERIODIC, TRIGGER, kind}

abbrev pub VERSION : ℕ
VERSION = 1

-- version 01, role count 1 to 64: one test a field, in frame order
abbrev pub header_tests : ℕ → ℕ → List Bool
header_tests version roles = eqb version VERSION ∷ (leb 1 roles && leb roles ROLES) ∷ []

unfoldable pub header_fits : ℕ → ℕ → Bool
header_fits version roles = all (header_tests version roles)

-- what a frame may say, under a header with this role count
unfoldable pub frame_fits : ℕ → ℕ → List ℕ → Bool
frame_fits k roles f =
    cond (eqb k HEADER) (header_fits (byte_at f 1) (byte_at f 2))
    (cond (eqb k PERIODIC) (periodic_fits roles (periodic_at (periodic_row f) 0))
    (cond (eqb k TRIGGER) (trigger_fits roles (trigger_at (trigger_row f) 0)) true))

-- the same, test by test: one a field, in frame order; of an end frame none (its counts are COUNT's). `frame_tests_lem` (Laws) says that a frame fits when all of them pass.
abbrev pub frame_tests : ℕ → ℕ → List ℕ → List Bool
frame_tests k roles f =
    cond (eqb k HEADER) (header_tests (byte_at f 1) (byte_at f 2))
    (cond (eqb k PERIODIC) (periodic_tests roles (periodic_at (periodic_row f) 0))
    (cond (eqb k TRIGGER) (trigger_tests roles (trigger_at (trigger_row f) 0)) []))

-- ---- the first bad field

-- how many bytes each field of a periodic frame has: begin 4, end 4, period 2, first 2, run 2, event 1, priority 1
abbrev pub PERIODIC_WIDTHS : List ℕ
PERIODIC_WIDTHS = 4 ∷ 4 ∷ 2 ∷ 2 ∷ 2 ∷ 1 ∷ 1 ∷ []

-- the byte of a frame of kind k at which field i begins, in frame order from 0: the first field follows the kind; those of a header and of a trigger have a byte each
abbrev pub field_byte : ℕ → ℕ → ℕ
field_byte k i = 1 + cond (eqb k PERIODIC) (sum (take i PERIODIC_WIDTHS)) i

-- THE FIRST BAD FIELD of a frame that does not fit: the byte at which it begins
unfoldable pub bad_byte : ℕ → ℕ → List ℕ → ℕ
bad_byte k roles f = field_byte k (first_failing (frame_tests k roles f))

-- THE COLUMN OF FIELD in words, of a frame f under a header with this role count: the test of some field fails, those of all fields before it pass, and there its first digit stands
abbrev pub FieldColumn : ℕ → List ℕ → ℕ → Type 0
FieldColumn roles f column = (i : ℕ) × FailsFirst (frame_tests (kind f) roles f) i × (column ≡ 2 * field_byte (kind f) i + 1)
