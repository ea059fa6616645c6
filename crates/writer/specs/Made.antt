-- How the writer goes: the frames of which it makes its lines, and what it puts into the buffer. Its private functions speak of these; what is promised is `Writes` (Outcome), and that these meet it is
-- proved (Laws/Meets).
-- Assumes nothing.
use Rattle.std.specs.Prelude.{◌≡◌, cond, List, [], ◌∷◌, ◌++◌, ℕ, zero, suc, ◌+◌, ◌-◌, ◌*◌, ◌/◌, ◌%◌, ◌≤◌, ◌<◌, ltb, length, take, ⊤}
use Rattle.std.proofs.Math.Seq.{paste}
use Rattle.theory.specs.Numbers.{BODY_EVENTS, BODY_CONDITIONS}
use Rattle.tables.specs.Layout.{PERIODIC_BYTES, TRIGGER_BYTES, byte_at}
use Rattle.tables.specs.Lent.{Rules}
use Rattle.loops.specs.Tested.{tabulate}
use Rattle.kinds.specs.Kinds.{HEADER, PERIODIC, TRIGGER, END}
use Rattle.fields.specs.Fields.{VERSION}
use Rattle.prints.specs.Print.{line_of}

-- ---- frames, without their check

abbrev pub header_frame : ℕ → List ℕ
header_frame roles = HEADER ∷ VERSION ∷ roles ∷ []

-- the kind, and the bytes of the row that begins at `at`
abbrev pub periodic_frame : List ℕ → ℕ → List ℕ
periodic_frame table at = PERIODIC ∷ tabulate PERIODIC_BYTES (λ k. byte_at table (at + k))

-- which byte of its row is byte k of a trigger's frame, with e events and c conditions: those up to the last event stand one later, for the kind; then come the conditions, then what stands last
unfoldable pub row_place : ℕ → ℕ → ℕ → ℕ
row_place e c k = cond (ltb k (3 + e)) (k - 1) (cond (ltb k (3 + e + c)) (k + 3 - e) (k + 7 - e - c))

-- how many bytes it has: the kind, the two counts, the events, the conditions, and head, priority and delay
abbrev pub body_size : ℕ → ℕ → ℕ
body_size e c = 6 + e + c

-- the longest frame of a trigger whose row begins at `at`; with e events and c conditions the first bytes of it are used
abbrev pub trigger_whole : List ℕ → ℕ → ℕ → ℕ → List ℕ
trigger_whole table at e c = TRIGGER ∷ tabulate TRIGGER_BYTES (λ k. byte_at table (at + row_place e c (suc k)))

abbrev pub body_frame : List ℕ → ℕ → ℕ → ℕ → List ℕ
body_frame table at e c = take (body_size e c) (trigger_whole table at e c)

-- by the counts that stand in the row
unfoldable pub trigger_frame : List ℕ → ℕ → List ℕ
trigger_frame table at = body_frame table at (byte_at table at) (byte_at table (at + 1))

abbrev pub end_frame : ℕ → ℕ → List ℕ
end_frame n m = END ∷ n % 256 ∷ m / 256 % 256 ∷ m % 256 ∷ []

-- ---- lines

-- the lines of the first n rows, by the line of each
abbrev pub text_below : ℕ → (ℕ → List ℕ) → List ℕ
text_below zero line = []
text_below (suc n) line = text_below n line ++ line n

abbrev pub periodic_text : List ℕ → ℕ → List ℕ
periodic_text table i = line_of (periodic_frame table (PERIODIC_BYTES * i))

abbrev pub trigger_text : List ℕ → ℕ → List ℕ
trigger_text table i = line_of (trigger_frame table (TRIGGER_BYTES * i))

-- the whole sheet
abbrev pub sheet_text : Rules → List ℕ
sheet_text R =
    ((line_of (header_frame R.counts.roles)
    ++ text_below R.counts.periodics (periodic_text R.tables.periodics))
    ++ text_below R.counts.triggers (trigger_text R.tables.triggers))
    ++ line_of (end_frame R.counts.periodics R.counts.triggers)

-- ---- the buffer

-- a text was put into the buffer d at `at`, which then is d', and `to` is the place after it
pub record Puts (d : List ℕ) (at : ℕ) (text d' : List ℕ) (to : ℕ) : Type 0 where
  pub buffer : d' ≡ paste d at text (length text)
  pub place : to ≡ at + length text

-- any periodic row can be written,
abbrev pub AnyRow : List ℕ → ℕ → Type 0
AnyRow table i = ⊤

-- and a trigger whose body is within its limits
abbrev pub FewInBody : List ℕ → ℕ → Type 0
FewInBody table i = (byte_at table (TRIGGER_BYTES * i) ≤ BODY_EVENTS) × (byte_at table (TRIGGER_BYTES * i + 1) ≤ BODY_CONDITIONS)

-- the bodies of the first n triggers are within their limits
abbrev pub FewInBodies : List ℕ → ℕ → Type 0
FewInBodies table n = (i : ℕ) → i < n → FewInBody table i
