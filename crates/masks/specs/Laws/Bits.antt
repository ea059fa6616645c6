-- Laws of the weights of a number: of a union, of a single weight, above the highest; a number is determined by its weights, and any weights are those of some number.
-- Assumes nothing.
use Rattle.std.specs.Prelude.{◌≡◌, refl, Bool, true, false, ◌||◌, ℕ, zero, suc, ◌+◌, ◌*◌, ◌/◌, ◌%◌, ◌^◌, ◌≤◌, ◌<◌, max, eqb}
use Rattle.std.proofs.Common.{sym, ap, ◌∙◌, true≢false, mod-lt, pow-suc, div-one, one-mul, arith, pow_mono, shr-shr, shl_exact}
use Rattle.std.proofs.lemmas.Bool.{false≢true}
use Rattle.std.proofs.Math.Nat.{div-eq_of_lt}
use Rattle.std.proofs.Math.Dec.{eqb-zero-suc, eqb-suc-zero, eqb-suc-suc}
use Rattle.std.specs.Int.Bits.{bit_or, or_step}
use Rattle.std.proofs.lemmas.Nat.{or_shr}
use Rattle.theory.specs.Below.{one}
use Rattle.theory.proofs.Laws.Tests.{is_false}
use Rattle.tables.specs.Buffers.{bit}

two_pos : 0 < 2
two_pos = omega arith

-- ---- a union

digit_max : (x y : ℕ) → x < 2 → y < 2 → eqb (max x y) 1 ≡ (eqb x 1 || eqb y 1)
digit_max zero zero h k = refl
digit_max zero (suc zero) h k = refl
digit_max zero (suc (suc y)) h k = absurd (omega arith)
digit_max (suc zero) zero h k = refl
digit_max (suc zero) (suc zero) h k = refl
digit_max (suc zero) (suc (suc y)) h k = absurd (omega arith)
digit_max (suc (suc x)) y h k = absurd (omega arith)

or_odd : (a b : ℕ) → bit_or a b % 2 ≡ max (a % 2) (b % 2)
or_odd a b = omega (arith, or_step a b, mod-lt a two_pos, mod-lt b two_pos)

pub bit_or_lem : (a b p : ℕ) → bit (bit_or a b) p ≡ (bit a p || bit b p)
unfolding bit
bit_or_lem a b p =
    ap (λ (x : ℕ). eqb (x % 2) 1) (or_shr a b p)
    ∙ ap (λ (x : ℕ). eqb x 1) (or_odd (a / 2 ^ p) (b / 2 ^ p))
    ∙ digit_max (a / 2 ^ p % 2) (b / 2 ^ p % 2) (mod-lt (a / 2 ^ p) two_pos) (mod-lt (b / 2 ^ p) two_pos)

-- ---- above the highest weight

pub bit_high : (n k p : ℕ) → n < 2 ^ k → k ≤ p → bit n p ≡ false
unfolding bit
bit_high n k p h l = let z : n / 2 ^ p ≡ 0 = div-eq_of_lt (omega (arith, pow_mono l)) in rw z refl

pub bit_none : (p : ℕ) → bit 0 p ≡ false
bit_none p = bit_high 0 0 p (omega arith) (omega arith)

-- ---- the lowest weight, and the others

pub bit_zero : (n : ℕ) → bit n 0 ≡ eqb (n % 2) 1
unfolding bit
bit_zero n = rw div-one refl

pub bit_suc : (n p : ℕ) → bit n (suc p) ≡ bit (n / 2) p
unfolding bit
bit_suc n p =
    let e : 1 + p ≡ suc p = omega arith in
    let f : n / 2 / 2 ^ p ≡ n / 2 ^ suc p = rw (← e) (shr-shr n 1 p) in
    rw f refl

-- ---- a single weight

pub bit_pow : (k p : ℕ) → bit (2 ^ k) p ≡ eqb k p
bit_pow zero zero = bit_zero 1
bit_pow zero (suc p) = bit_suc 1 p ∙ bit_none p ∙ sym (eqb-zero-suc p)
bit_pow (suc k) zero =
    let e : 2 ^ suc k % 2 ≡ 0 = omega (arith, pow-suc 2 k) in
    bit_zero (2 ^ suc k) ∙ ap (λ (x : ℕ). eqb x 1) e ∙ sym (eqb-suc-zero k)
bit_pow (suc k) (suc p) =
    let e : 2 ^ suc k / 2 ≡ 2 ^ k = omega (arith, pow-suc 2 k) in
    bit_suc (2 ^ suc k) p ∙ ap (λ (x : ℕ). bit x p) e ∙ bit_pow k p ∙ sym (eqb-suc-suc k p)

-- the code's `1 << p` in a number of w bits
pub shl_one : (w p : ℕ) → p < w → (1 * 2 ^ p) % 2 ^ w ≡ 2 ^ p
shl_one w p h = shl_exact {a = 1} 1 p w (omega arith) (omega arith) ∙ one-mul (2 ^ p)

-- ---- numbers of k bits and sets of numbers below k are the same thing

digit_eq : (x y : ℕ) → x < 2 → y < 2 → eqb x 1 ≡ eqb y 1 → x ≡ y
digit_eq zero zero h k e = refl
digit_eq zero (suc zero) h k e = absurd (false≢true e)
digit_eq zero (suc (suc y)) h k e = absurd (omega arith)
digit_eq (suc zero) zero h k e = absurd (true≢false e)
digit_eq (suc zero) (suc zero) h k e = refl
digit_eq (suc zero) (suc (suc y)) h k e = absurd (omega arith)
digit_eq (suc (suc x)) y h k e = absurd (omega arith)

-- a number of k bits is determined by its weights
pub bit_ext : (k a b : ℕ) → a < 2 ^ k → b < 2 ^ k → ((p : ℕ) → p < k → bit a p ≡ bit b p) → a ≡ b
bit_ext zero a b ha hb h = omega arith
bit_ext (suc k) a b ha hb h =
    let p = pow-suc 2 k in
    let low : a % 2 ≡ b % 2 = digit_eq (a % 2) (b % 2) (omega arith) (omega arith) (sym (bit_zero a) ∙ h 0 (omega arith) ∙ bit_zero b) in
    let high : a / 2 ≡ b / 2 = bit_ext k (a / 2) (b / 2) (omega arith) (omega arith) (λ q l. sym (bit_suc a q) ∙ h (suc q) (omega arith) ∙ bit_suc b q) in
    omega arith

digit_one : (b : Bool) → (one b < 2) × (eqb (one b) 1 ≡ b)
digit_one true = (omega arith, refl)
digit_one false = (omega arith, refl)

-- every set of numbers below k is the weights of a number of k bits
pub bits_of : (k : ℕ) (f : ℕ → Bool) → ((p : ℕ) → f p ≡ true → p < k) → (n : ℕ) × (n < 2 ^ k) × ((p : ℕ) → bit n p ≡ f p)
bits_of zero f h = (0, omega arith, λ p. bit_none p ∙ sym (is_false (f p) (λ t. omega (arith, h p t))))
bits_of (suc k) f h =
    let r = bits_of k (λ p. f (suc p)) (λ p t. omega (arith, h (suc p) t)) in
    let d = digit_one (f 0) in
    let n : ℕ = 2 * r.0 + one (f 0) in
    let low : n % 2 ≡ one (f 0) = omega (arith, d.0) in
    let high : n / 2 ≡ r.0 = omega (arith, d.0) in
    let says : (p : ℕ) → bit n p ≡ f p
    = λ p. elim p as (λ q. bit n q ≡ f q) [
      | zero ↦ bit_zero n ∙ ap (λ (x : ℕ). eqb x 1) low ∙ d.1
      | suc q ↦ bit_suc n q ∙ ap (λ (x : ℕ). bit x q) high ∙ r.2 q
    ] in
    (n, omega (arith, pow-suc 2 k, r.1, d.0), says)
