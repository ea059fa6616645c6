-- Loops that write into buffers, as what they make of the list.
-- Assumes nothing.
use Rattle.std.specs.Prelude.{Bool, cond, List, ℕ, zero, suc, ◌+◌, set}
use Rattle.masks.specs.Masks.{joined_at}

-- One entry: where `on`, the priority joins the number `at`.
pub record Entry : Type 0 where
  pub on : Bool
  pub at : ℕ
  pub priority : ℕ

abbrev pub joined_where : List ℕ → Entry → List ℕ
joined_where l x = cond x.on (joined_at l x.at x.priority) l

-- the buffer after the first n entries, one after the other
unfoldable pub joins : List ℕ → ℕ → (ℕ → Entry) → List ℕ
joins l zero entry = l
joins l (suc n) entry = joined_where (joins l n entry) (entry n)

-- the buffer with the numbers v 0, v 1 and so on, n of them, written from `at` on
unfoldable pub writes : List ℕ → ℕ → ℕ → (ℕ → ℕ) → List ℕ
writes l at zero v = l
writes l at (suc n) v = set (writes l at n v) (at + n) (v n)
