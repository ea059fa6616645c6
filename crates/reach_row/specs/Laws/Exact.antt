-- The contracts of `none`, `with` and `joined` leave one possible content of the row that they make: a row of the code is whole.
-- Assumes nothing.
use Rattle.std.specs.Prelude.{◌≡◌, refl, Bool, false, ◌&&◌, ◌||◌, ℕ, ◌<◌, eqb}
use Rattle.std.proofs.Common.{sym, ◌∙◌, arith, ext_get_or}
use Rattle.theory.specs.Numbers.{EVENTS}
use Rattle.reach_row.specs.Row.{Row, whole, reaches, RowIs}
use Rattle.reach_row.specs.Laws.Row.{row_at}

-- two rows that hold the same events are equal
pub row_one : (f : ℕ → Bool) (r r' : Row) → RowIs f r → RowIs f r' → r ≡ r'
row_one f r r' h h' =
    ext_get_or false r r' (h.size ∙ sym h'.size)
    (λ b l.
    let m : b < EVENTS = omega (arith, h.size) in
    sym (row_at r b m) ∙ h.says b m ∙ sym (h'.says b m) ∙ row_at r' b m)

-- a whole row holds the events that it reaches
row_own : (row : Row) → whole row → RowIs (reaches row) row
row_own row h = record { size = h; says = λ b l. refl }

-- ---- function by function

pub none_exact : (r r' : Row) → RowIs (λ _. false) r → RowIs (λ _. false) r' → r ≡ r'
none_exact = row_one (λ _. false)

pub with_exact : (row : Row) (b : ℕ) (on : Bool) (r r' : Row) → whole row
    → ((f : ℕ → Bool) → RowIs f row → RowIs (λ x. f x || (on && eqb b x)) r) → ((f : ℕ → Bool) → RowIs f row → RowIs (λ x. f x || (on && eqb b x)) r') → r ≡ r'
with_exact row b on r r' h e e' = row_one (λ x. reaches row x || (on && eqb b x)) r r' (e (reaches row) (row_own row h)) (e' (reaches row) (row_own row h))

pub joined_exact : (x y r r' : Row) → whole x → whole y
    → ((f g : ℕ → Bool) → RowIs f x → RowIs g y → RowIs (λ b. f b || g b) r) → ((f g : ℕ → Bool) → RowIs f x → RowIs g y → RowIs (λ b. f b || g b) r') → r ≡ r'
joined_exact x y r r' h k e e' =
    row_one (λ b. reaches x b || reaches y b) r r'
    (e (reaches x) (reaches y) (row_own x h) (row_own y k))
    (e' (reaches x) (reaches y) (row_own x h) (row_own y k))
