-- Words of request [1], 'Send the sheet back out': what a sheet is when its rows are put in table order, and what tables are when nothing stands in unused rows and places.
-- Assumes nothing.
use Rattle.std.specs.Prelude.{◌≡◌, cond, List, [], ◌∷◌, ◌++◌, ℕ, ◌+◌, ◌*◌, ◌≤◌, ◌<◌, eqb}
use Rattle.frames.specs.Frame.{bytes_of}
use Rattle.tables.specs.Layout.{PERIODIC_BYTES, TRIGGER_BYTES, byte_at, trigger_at}
use Rattle.tables.specs.Lent.{Rules}
use Rattle.tables.specs.Used.{UsedByte, SameRules}
use Rattle.kinds.specs.Kinds.{HEADER, PERIODIC, TRIGGER, END, kind}

-- ---- lines

-- the lines of kind k among these, in their order and each as it stands
abbrev pub lines_of_kind : ℕ → List (List ℕ) → List (List ℕ)
lines_of_kind k [] = []
lines_of_kind k (l ∷ ls) = cond (eqb (kind (bytes_of l)) k) (l ∷ lines_of_kind k ls) (lines_of_kind k ls)

-- IN TABLE ORDER: the header line, the periodic lines in their order, the trigger lines in their order, the end line. (Of an accepted sheet, which has one header, one end and no other kind, these are all.)
abbrev pub in_table_order : List (List ℕ) → List (List ℕ)
in_table_order ls = lines_of_kind HEADER ls ++ (lines_of_kind PERIODIC ls ++ (lines_of_kind TRIGGER ls ++ lines_of_kind END ls))

-- all periodic lines stand before the triggers: after a trigger there is none
abbrev pub PeriodicsFirst : List (List ℕ) → Type 0
PeriodicsFirst ls = (before after : List (List ℕ)) (l : List ℕ) → ls ≡ before ++ l ∷ after → kind (bytes_of l) ≡ TRIGGER → lines_of_kind PERIODIC after ≡ []

-- ---- tables

-- THE SAME ROWS in the same order, and nothing else: R' has the counts of R, the same tables in every used row and place, and zero in every other.
pub record OnlyItsRows (R R' : Rules) : Type 0 where
  pub same : SameRules R R'
  -- past the used rows,
  pub periodic_rest : (k : ℕ) → PERIODIC_BYTES * R.counts.periodics ≤ k → byte_at R'.tables.periodics k ≡ 0
  pub trigger_rest : (k : ℕ) → TRIGGER_BYTES * R.counts.triggers ≤ k → byte_at R'.tables.triggers k ≡ 0
  -- and in the places of a used trigger past its counts
  pub places : (i k : ℕ) → i < R.counts.triggers → k < TRIGGER_BYTES → ¬ UsedByte (trigger_at R.tables.triggers i) k → byte_at R'.tables.triggers (TRIGGER_BYTES * i + k) ≡ 0
