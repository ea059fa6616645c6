-- `prints::put_hex` meets its contract. The loop's invariant: the digits of the first j bytes are pasted.
-- Assumes nothing.
use Rattle.std.proofs.Common.{◌≡◌, ◌*◌, length, take}
use Rattle.std.proofs.Math.Seq.{paste}
use Rattle.prints.specs.Print.{hex_of}
use Rattle.prints.proofs.put_hex.Given as goal

abbrev pub invariant-loop-j : goal.invariant-loop-j
invariant-loop-j l =
    (length l.out ≡ length l.initial.out) × (l.out ≡ paste l.initial.out l.at (hex_of (take l.j l.frame)) (2 * l.j))
