-- What each verdict of the judge says of the sheet, in document 01's words. `Laws` has the theorem: whatever the judge says is so.
-- Assumes nothing.
use Rattle.std.specs.Prelude.{◌≡◌, ◌⊎◌, true, false, ℕ, ◌≤◌, ◌<◌, Err, Ok}
use Rattle.theory.specs.Numbers.{ROLES, PERIODIC_ROWS, TRIGGER_ROWS}
use Rattle.theory.specs.Sheet.{Sheet, GoodOrder}
use Rattle.theory.specs.Graph.{NoLoop, LoopAt}
use Rattle.answers.specs.declared.Name.{Name}
use Rattle.answers.specs.declared.Name.TheVariants.{Length, Frame, Check, Kind, Field, TooMany, Count, Loop, Request, Last}
use Rattle.row_judge.specs.Judge.{row_count, row_fits}
use Rattle.answers.specs.Answers.{Verdict}

-- neither count of rows is over its limit
abbrev pub FewRows : Sheet → Type 0
FewRows sh = (sh.periodic_count ≤ PERIODIC_ROWS) × (sh.trigger_count ≤ TRIGGER_ROWS)

-- the role count is 1 to 64
abbrev pub RolesFit : Sheet → Type 0
RolesFit sh = (1 ≤ sh.role_count) × (sh.role_count ≤ ROLES)

-- row k is the first that does not hold what it may
pub record UnfitAt (sh : Sheet) (k : ℕ) : Type 0 where
  pub row : k < row_count sh
  pub unfit : row_fits sh k ≡ false
  pub first : (j : ℕ) → j < k → row_fits sh j ≡ true

-- a refusal with the place k: these three are given and no other
abbrev pub RefusalSays : Sheet → Name → ℕ → Type 0
RefusalSays sh TooMany k = (k ≡ 0) × (FewRows sh → ⊥)
RefusalSays sh Field k = FewRows sh × (((k ≡ 0) × (RolesFit sh → ⊥)) ⊎ (RolesFit sh × UnfitAt sh k))
RefusalSays sh Loop k = GoodOrder sh × LoopAt sh k
RefusalSays sh Length k = ⊥
RefusalSays sh Frame k = ⊥
RefusalSays sh Check k = ⊥
RefusalSays sh Kind k = ⊥
RefusalSays sh Count k = ⊥
RefusalSays sh Request k = ⊥
RefusalSays sh Last k = ⊥

-- a pass: no field and no count is outside its limit, and there is no loop; a refusal: lent tables have no lines, and it has no column
abbrev pub Says : Sheet → Verdict → Type 0
Says sh (Ok tt) = GoodOrder sh × NoLoop sh
Says sh (Err r) = RefusalSays sh r.name r.place × (r.column ≡ 0)
