-- The tests of a line by their names, each said of the line and of the frames that stand before it: document 01, 'The sheet' and 'What comes back'.
-- Assumes nothing.
use Rattle.std.specs.Prelude.{◌≡◌, Bool, true, false, not, cond, ◌&&◌, ◌||◌, List, [], ◌∷◌, ◌++◌, ℕ, suc, eqb}
use Rattle.answers.specs.declared.Name.{Name}
use Rattle.answers.specs.declared.Name.TheVariants.{Length, Frame, Check, Kind, Field, TooMany, Count, Loop, Request, Last}
use Rattle.text.specs.Framed.{framed}
use Rattle.frames.specs.Frame.{bytes_of, checked}
use Rattle.tables.specs.Layout.{byte_at, two}
use Rattle.kinds.specs.Kinds.{HEADER, PERIODIC, TRIGGER, END, kind, sized}
use Rattle.row_counts.specs.Counts.{room_for, counts_agree}
use Rattle.fields.specs.Fields.{frame_fits, bad_byte}

-- ---- what frames say, counted and looked up

-- how many of these frames are of kind k
abbrev pub how_many : ℕ → List (List ℕ) → ℕ
how_many k [] = 0
how_many k (f ∷ fs) = cond (eqb (kind f) k) (suc (how_many k fs)) (how_many k fs)

-- the role count: byte 2 of the first frame, which is the header
abbrev pub role_count : List (List ℕ) → ℕ
role_count [] = 0
role_count (f ∷ fs) = byte_at f 2

-- ---- KIND in three parts

-- a kind that there is
abbrev pub known : ℕ → Bool
known k = eqb k HEADER || (eqb k PERIODIC || (eqb k TRIGGER || eqb k END))

-- its place, after these frames: the first line is the header and no other is, and nothing stands after an end
abbrev pub in_place : List (List ℕ) → ℕ → Bool
in_place [] k = eqb k HEADER
in_place (f ∷ fs) k = not (eqb k HEADER) && eqb (how_many END (f ∷ fs)) 0

-- ---- the tests

-- THE TEST OF THIS NAME passes, of line l after these frames: FRAME by its characters, the others by its bytes. The four names that are no test of a sheet's line always pass.
unfoldable pub passes : Name → List (List ℕ) → List ℕ → Bool
passes Frame before l = framed l
passes Check before l = checked (bytes_of l)
passes Kind before l = known (kind (bytes_of l)) && (sized (bytes_of l) && in_place before (kind (bytes_of l)))
passes TooMany before l = room_for (kind (bytes_of l)) (how_many PERIODIC before) (how_many TRIGGER before)
passes Field before l = frame_fits (kind (bytes_of l)) (role_count before) (bytes_of l)
passes Count before l = counts_agree (kind (bytes_of l)) (byte_at (bytes_of l) 1) (two (bytes_of l) 2) (how_many PERIODIC before) (how_many TRIGGER before)
passes Length before l = true
passes Loop before l = true
passes Request before l = true
passes Last before l = true

-- THE ORDER of the tests of a line
abbrev pub order : List Name
order = Frame ∷ Check ∷ Kind ∷ TooMany ∷ Field ∷ Count ∷ []

-- each of these tests passes
abbrev pub all_pass : List Name → List (List ℕ) → List ℕ → Bool
all_pass [] before l = true
all_pass (name ∷ names) before l = passes name before l && all_pass names before l

-- of these tests, in their order, the first that fails is that of this name: each of the earlier ones passes, and this one fails
pub record FirstFails (names : List Name) (name : Name) (before : List (List ℕ)) (l : List ℕ) : Type 0 where
  pub earlier : List Name
  pub later : List Name
  pub in_order : names ≡ earlier ++ name ∷ later
  pub passed : all_pass earlier before l ≡ true
  pub failed : passes name before l ≡ false

-- the byte at which the first bad field begins, of line l after these frames
abbrev pub bad_field : List (List ℕ) → List ℕ → ℕ
bad_field before l = bad_byte (kind (bytes_of l)) (role_count before) (bytes_of l)
