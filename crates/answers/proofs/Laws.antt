-- Laws of verdicts: each is a pass or a refusal, and none is both; what passes has passed each of its tests; and what a `?` hands on.
-- Assumes nothing.
use Rattle.std.specs.Prelude.{◌≡◌, refl, ◌⊎◌, Bool, true, false, cond, ℕ, Result, Ok, Err, IsErrAnd}
use Rattle.std.proofs.Common.{inl, inr, arith, ap, ◌∙◌}
use Rattle.std.proofs.lemmas.Result.{err_from_is_err_and}
use Rattle.answers.specs.declared.Name.{Name}
use Rattle.answers.specs.declared.Refusal.{Refusal}
use Rattle.answers.specs.Answers.{refuse, and_then, Verdict, pass}

pub verdict_cases : (v : Verdict) → (v ≡ pass) ⊎ ((r : Refusal) × (v ≡ Err r))
verdict_cases (Ok tt) = inl refl
verdict_cases (Err r) = inr (r, refl)

-- a refusal is no pass
pub no_pass : {C : Type 0} (r : Refusal) → Err r ≡ pass → C
no_pass r e = absurd (let z : ◌≡◌ {A = ℕ} 0 1 = cc in omega arith)

-- one verdict has one refusal
pub refused_same : (a b : Refusal) → ◌≡◌ {A = Verdict} (Err a) (Err b) → a ≡ b
refused_same a b e = cc

-- where a test that must hold does not, there is a refusal
pub cond_pass : (b : Bool) (v : Verdict) (name : Name) (place : ℕ) → cond b v (refuse name place) ≡ pass → (b ≡ true) × (v ≡ pass)
cond_pass true v name place e = (refl, e)
cond_pass false v name place e = no_pass _ e

-- both pass
pub both_pass : (v w : Verdict) → and_then v w ≡ pass → (v ≡ pass) × (w ≡ pass)
unfolding and_then
both_pass (Ok tt) w e = (refl, e)
both_pass (Err r) w e = no_pass r e

-- what a `?` hands on is the refusal that it met
pub handed_on : {A : Type 0} (r : Result A Refusal) (x : Refusal) → IsErrAnd r (λ (y : Refusal). y ≡ x) → r ≡ Err x
handed_on r x h = let p = err_from_is_err_and r h in p.1 ∙ ap Err p.2
