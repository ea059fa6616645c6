-- What is proved of the numbers of a line.
-- Assumes nothing.
use Rattle.std.specs.Prelude.{◌≡◌, refl, List, ℕ, suc, ◌+◌, ◌*◌, ◌-◌, ◌≤◌, ◌<◌}
use Rattle.std.proofs.Common.{arith}
use Rattle.std.specs.Option.{unwrap_or}
use borrow.Author.Tests.{lt-ltb, le-ltb}
use Rattle.tables.specs.Layout.{byte_at}
use Rattle.cases.specs.Digits.{value_of, with_digit, number_of}

-- the number up to i, with the digit at i
pub number_next : (line : List ℕ) (from i v : ℕ) → from ≤ i → v ≡ number_of line from (i - from) → with_digit v (byte_at line i) ≡ number_of line from (i + 1 - from)
number_next line from i v h e =
    let one : i + 1 - from ≡ suc (i - from) = omega arith in
    let place : from + (i - from) ≡ i = omega arith in
    rw (e, one, place) refl

-- a digit is at most 15
pub small : (b : ℕ) → unwrap_or (value_of b) 0 ≤ 15
unfolding value_of
small b =
    grind (arith, lt-ltb, le-ltb)

-- a digit adds at most 15
adds : (v b : ℕ) → with_digit v b ≤ 16 * v + 15
unfolding with_digit
adds v b = omega (arith, small b)

-- a number of four digits has 16 bits
pub four_fits : (line : List ℕ) (from : ℕ) → number_of line from 4 < 65536
four_fits line from =
    let n = number_of line from in
    omega (arith, adds (n 0) (byte_at line (from + 0)), adds (n 1) (byte_at line (from + 1)), adds (n 2) (byte_at line (from + 2)), adds (n 3) (byte_at line (from + 3)))
