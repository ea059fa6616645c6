-- The numbers of the refusals: 1 to 10, each of exactly one; and so an answer in numbers is that of one verdict.
-- Assumes nothing.
use Rattle.std.specs.Prelude.{◌≡◌, refl, List, [], ◌∷◌, ℕ, ◌+◌, ◌-◌, ◌≤◌, eqb, get_or, Err, Ok}
use Rattle.std.proofs.Common.{sym, ap, ◌∙◌, arith, eqb-true}
use Rattle.theory.specs.Below.{all_below}
use Rattle.theory.proofs.Laws.Below.{all_elim}
use Rattle.answers.specs.declared.Name.{Name}
use Rattle.answers.specs.declared.Name.TheVariants.{Length, Frame, Check, Kind, Field, TooMany, Count, Loop, Request, Last}
use Rattle.answers.specs.declared.Answer.{Answer}
use Rattle.answers.specs.declared.Refusal.{Refusal}
use Rattle.answers.specs.Answers.{number_of, answered, Verdict, pass}

-- the number of a refusal is 1 to 10
pub no_other : (name : Name) → (1 ≤ number_of name) × (number_of name ≤ 10)
no_other Length = (omega arith, omega arith)
no_other Frame = (omega arith, omega arith)
no_other Check = (omega arith, omega arith)
no_other Kind = (omega arith, omega arith)
no_other Field = (omega arith, omega arith)
no_other TooMany = (omega arith, omega arith)
no_other Count = (omega arith, omega arith)
no_other Loop = (omega arith, omega arith)
no_other Request = (omega arith, omega arith)
no_other Last = (omega arith, omega arith)

-- the refusals in the order of their numbers
abbrev names : List Name
names = Length ∷ Frame ∷ Check ∷ Kind ∷ Field ∷ TooMany ∷ Count ∷ Loop ∷ Request ∷ Last ∷ []

-- refusal number n + 1
abbrev name_at : ℕ → Name
name_at n = get_or names n Length

name_again : (name : Name) → name_at (number_of name - 1) ≡ name
name_again Length = refl
name_again Frame = refl
name_again Check = refl
name_again Kind = refl
name_again Field = refl
name_again TooMany = refl
name_again Count = refl
name_again Loop = refl
name_again Request = refl
name_again Last = refl

-- no two refusals have one number
pub number_once : (a b : Name) → number_of a ≡ number_of b → a ≡ b
number_once a b e = sym (name_again a) ∙ (ap (λ (n : ℕ). name_at (n - 1)) e ∙ name_again b)

-- a refusal's number is not OK's
pub not_ok : {C : Type 0} (r : Refusal) → answered (Err r) ≡ answered pass → C
not_ok r e = absurd (omega (arith, (no_other r.name).0, ap (λ (a : Answer). a.number) e))

-- no two verdicts have one number, one place and one column
pub answered_once : (v w : Verdict) → answered v ≡ answered w → v ≡ w
answered_once (Ok a) (Ok b) e = refl
answered_once (Ok tt) (Err r) e = not_ok r (sym e)
answered_once (Err r) (Ok tt) e = not_ok r e
answered_once (Err r) (Err s) e =
    let n : r.name ≡ s.name = number_once r.name s.name (ap (λ (a : Answer). a.number) e) in
    let p : r.place ≡ s.place = ap (λ (a : Answer). a.place) e in
    let c : r.column ≡ s.column = ap (λ (a : Answer). a.column) e in
    λ i. Err (record { name = n i; place = p i; column = c i })

-- every number is of one
pub number_each : (n : ℕ) → 1 ≤ n → n ≤ 10 → (name : Name) × (number_of name ≡ n)
unfolding all_below
number_each n l m =
    let k : ℕ = n - 1 in
    let e : number_of (name_at k) ≡ k + 1 = eqb-true (number_of (name_at k)) (k + 1) (all_elim 10 (λ j. eqb (number_of (name_at j)) (j + 1)) refl k (omega arith)) in
    (name_at k, omega (arith, e))
