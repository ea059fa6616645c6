-- A number of four bytes is its bytes, high byte first.
-- Assumes nothing.
use Rattle.std.specs.Prelude.{◌≡◌, ℕ, ◌+◌, ◌*◌, ◌/◌, ◌%◌, ◌<◌}
use Rattle.std.proofs.Common.{arith}

four_parts : (n x y z a b c : ℕ) → n ≡ 256 * x + a → x ≡ 256 * y + b → y ≡ 256 * z + c → 65536 * (256 * z + c) + (256 * b + a) ≡ n
four_parts n x y z a b c p q r = omega arith

pub four_bytes : (n : ℕ) → n < 4294967296 → 65536 * (256 * (n / 16777216 % 256) + n / 65536 % 256) + (256 * (n / 256 % 256) + n % 256) ≡ n
four_bytes n h =
    let a : n / 65536 ≡ n / 256 / 256 = omega arith in
    let b : n / 16777216 % 256 ≡ n / 256 / 256 / 256 = omega arith in
    rw (a, b) (four_parts n (n / 256) (n / 256 / 256) (n / 256 / 256 / 256) (n % 256) (n / 256 % 256) (n / 256 / 256 % 256) (omega arith) (omega arith) (omega arith))
