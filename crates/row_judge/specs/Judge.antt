-- The judge of lent rows, which are not trusted: TOO MANY rows; FIELD, the role count first and then the rows (document 01, 'What comes back').
-- Assumes nothing.
use Rattle.std.specs.Prelude.{Bool, not, cond, ◌&&◌, ℕ, ◌+◌, ◌-◌, leb, ltb}
use Rattle.theory.specs.Numbers.{ROLES, PERIODIC_ROWS, TRIGGER_ROWS}
use Rattle.theory.specs.Below.{first_below}
use Rattle.theory.specs.Sheet.{Sheet, periodic_fits, trigger_fits}
use Rattle.answers.specs.declared.Name.TheVariants.{Field, TooMany}
use Rattle.answers.specs.Answers.{refuse, Verdict, pass}

-- passes TOO MANY: neither count of rows is over its limit
unfoldable pub few_rows : Sheet → Bool
few_rows sh = leb sh.periodic_count PERIODIC_ROWS && leb sh.trigger_count TRIGGER_ROWS

-- the role count is 1 to 64
unfoldable pub roles_fit : Sheet → Bool
roles_fit sh = leb 1 sh.role_count && leb sh.role_count ROLES

-- the rows as a step counts them: the periodic rows from 0, the triggers from the periodic count on
abbrev pub row_count : Sheet → ℕ
row_count sh = sh.periodic_count + sh.trigger_count

-- row k holds what it may
unfoldable pub row_fits : Sheet → ℕ → Bool
row_fits sh k =
    cond (ltb k sh.periodic_count)
    (periodic_fits sh.role_count (sh.periodic k))
    (trigger_fits sh.role_count (sh.trigger (k - sh.periodic_count)))

-- the first row that does not; the number of rows where all do
unfoldable pub first_unfit : Sheet → ℕ
first_unfit sh = first_below (row_count sh) (λ k. not (row_fits sh k))

-- TOO MANY, then FIELD: of the role count at place 0, of a row at its number
unfoldable pub judge_rows : Sheet → Verdict
judge_rows sh =
    cond (few_rows sh)
    (cond (roles_fit sh)
    (cond (ltb (first_unfit sh) (row_count sh)) (refuse Field (first_unfit sh)) pass)
    (refuse Field 0))
    (refuse TooMany 0)
