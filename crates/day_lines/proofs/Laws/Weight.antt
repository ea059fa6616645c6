-- The roles as a number: their weights make the number whose bits they are.
-- Assumes nothing.
use Rattle.std.specs.Prelude.{◌≡◌, refl, Bool, true, false, cond, ℕ, zero, suc, ◌+◌, ◌*◌, ◌/◌, ◌%◌, ◌^◌, ◌<◌, eqb}
use Rattle.std.proofs.Common.{sym, ◌∙◌, pow-suc, arith, eqb-true}
use Rattle.theory.specs.Events.{Roles}
use Rattle.std.proofs.lemmas.Bool.{eqb-false}
use Rattle.tables.specs.Buffers.{roles_of}
use Rattle.masks.specs.Laws.Bits.{bit_zero, bit_suc}
use Rattle.day_lines.specs.Lines.{weight_below}

-- a weight is twice that of the number before it
twice : (b : Bool) (n : ℕ) → cond b (2 ^ suc n) 0 ≡ 2 * cond b (2 ^ n) 0
twice true n = omega (arith, pow-suc 2 n)
twice false n = refl

-- the lowest role, and those above it
weight_low : (n : ℕ) (ST : Roles) → weight_below (suc n) ST ≡ cond (ST 0) 1 0 + 2 * weight_below n (λ r. ST (suc r))
unfolding weight_below
weight_low zero ST = omega arith
weight_low (suc n) ST = omega (arith, weight_low n ST, twice (ST (suc n)) n)

low_digit : (a : ℕ) (b : Bool) → eqb (a % 2) 1 ≡ b → a % 2 ≡ cond b 1 0
low_digit a true h = omega (arith, eqb-true (a % 2) 1 h)
low_digit a false h = omega (arith, eqb-false (a % 2) 1 h)

-- THE LAW
pub weight_is : (k a : ℕ) (ST : Roles) → a < 2 ^ k → ((r : ℕ) → roles_of a r ≡ ST r) → weight_below k ST ≡ a
unfolding weight_below
weight_is zero a ST l h = omega arith
weight_is (suc k) a ST l h =
    let high : weight_below k (λ r. ST (suc r)) ≡ a / 2 = weight_is k (a / 2) (λ r. ST (suc r)) (omega (arith, pow-suc 2 k)) (λ r. sym (bit_suc a r) ∙ h (suc r)) in
    let low : a % 2 ≡ cond (ST 0) 1 0 = low_digit a (ST 0) (sym (bit_zero a) ∙ h 0) in
    omega (arith, weight_low k ST, high, low)
