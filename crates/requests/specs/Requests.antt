-- The requests of one instant: REQUEST (document 01, 'What comes back').
-- Assumes nothing.
use Rattle.std.specs.Prelude.{◌≡◌, Bool, true, not, cond, ℕ, ◌<◌, ltb}
use Rattle.theory.specs.Below.{first_below}
use Rattle.theory.specs.Instant.{request_fits}
use Rattle.answers.specs.declared.Name.TheVariants.{Request}
use Rattle.answers.specs.Answers.{refuse, Verdict, pass}
use Rattle.tables.specs.Asked as lent
use Rattle.tables.specs.Asked.{Asked}

-- a request is within its limits
abbrev pub fits : ℕ → lent.Request → Bool
fits role_count r = request_fits role_count r.delay r.event r.priority

-- every request is
abbrev pub AllFit : ℕ → Asked → Type 0
AllFit role_count q = (i : ℕ) → i < q.count → fits role_count (q.request i) ≡ true

-- request k is not
abbrev pub outside : ℕ → Asked → ℕ → Bool
outside role_count q k = not (fits role_count (q.request k))

-- the first request outside its limits; the number of requests where there is none
unfoldable pub first_outside : ℕ → Asked → ℕ
first_outside role_count q = first_below q.count (outside role_count q)

-- REQUEST at its number, from 0
unfoldable pub judge_requests : ℕ → Asked → Verdict
judge_requests role_count q = cond (ltb (first_outside role_count q) q.count) (refuse Request (first_outside role_count q)) pass
