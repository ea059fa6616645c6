-- What the column of a line's refusal says, in document 02's words: [2]. `Laws` has the theorems: it is so of every column.
-- Assumes nothing.
use Rattle.std.specs.Prelude.{◌≡◌, ◌⊎◌, List, [], ℕ, suc, ◌+◌, ◌-◌, ◌≤◌, ◌<◌, length, get_or}
use Rattle.answers.specs.declared.Name.{Name}
use Rattle.answers.specs.declared.Name.TheVariants.{Length, Frame, Check, Kind, Field, TooMany, Count, Loop, Request, Last}
use Rattle.answers.specs.declared.Refusal.{Refusal}

-- an upper-case hexadecimal digit, as a number: 0 to 9 are 48 to 57, A to F are 65 to 70
abbrev pub Digit : ℕ → Type 0
Digit c = ((48 ≤ c) × (c ≤ 57)) ⊎ ((65 ≤ c) × (c ≤ 70))

-- column k of FRAME: all characters before it are digits; the character there is no digit, or k is one past the last, where the 0A stands or the text ends
pub record FrameColumn (l : List ℕ) (k : ℕ) : Type 0 where
  pub from_1 : 1 ≤ k
  pub before : (i : ℕ) → suc i < k → Digit (get_or l i 0)
  pub here : (k ≡ suc (length l)) ⊎ ((k ≤ length l) × (Digit (get_or l (k - 1) 0) → ⊥))

-- COLUMN k of a refusal of this name, in the line l: of FRAME that; of CHECK the last digit but one; of FIELD what `Bad` says of the first digit of the first bad field; of any other 0
abbrev pub ColumnSays : Name → List ℕ → (ℕ → Type 0) → ℕ → Type 0
ColumnSays Frame l Bad k = FrameColumn l k
ColumnSays Check l Bad k = suc k ≡ length l
ColumnSays Field l Bad k = Bad k
ColumnSays Length l Bad k = k ≡ 0
ColumnSays Kind l Bad k = k ≡ 0
ColumnSays TooMany l Bad k = k ≡ 0
ColumnSays Count l Bad k = k ≡ 0
ColumnSays Loop l Bad k = k ≡ 0
ColumnSays Request l Bad k = k ≡ 0
ColumnSays Last l Bad k = k ≡ 0

-- a refusal of the line l, which is at this place: its column says that, and lies in the line or one past its end
pub record InLine (Bad : ℕ → Type 0) (l : List ℕ) (place : ℕ) (r : Refusal) : Type 0 where
  pub at_place : r.place ≡ place
  pub says : ColumnSays r.name l Bad r.column
  pub within : r.column ≤ suc (length l)

-- a refusal of one of these lines, which stand after so many others
pub record FaultyAt (Bad : ℕ → Type 0) (ls : List (List ℕ)) (before : ℕ) (r : Refusal) : Type 0 where
  pub number : ℕ
  pub there : number < length ls
  pub in_line : InLine Bad (get_or ls number []) (before + 1 + number) r
