-- `frames::byte_at` meets its contract: a digit is below 16, and byte i is made of the characters 2i and 2i + 1.
-- Assumes nothing.
use mathlib.Core.Path.{sym}
use Prim.Native.Nat.{◌+◌, ◌*◌}
use lib.ListN.{get_or}
use Rattle.frames.specs.Laws.Frame.{value_small, byte_here, byte_past}
use borrow.Author.Rules.{rules}
use native.Mathlib.Omega.{arith}
use Rattle.frames.proofs.byte_at.Goals as goal

pub overflow_mul-result : goal.overflow_mul-result
overflow_mul-result c =
    omega (arith, value_small (get_or c.args.line.now (2 * c.args.i) 0), c.digit-a.ensures)

pub overflow_add-result : goal.overflow_add-result
overflow_add-result c =
    let g = value_small (get_or c.args.line.now (2 * c.args.i) 0) in
    let h = value_small (get_or c.args.line.now (2 * c.args.i + 1) 0) in
    omega (arith, c.digit-a.ensures, c.digit-b.ensures)

pub returns-then-i-line : goal.returns-then-i-line
returns-then-i-line c =
    let g = byte_here c.args.line.now c.args.i (search rules) in
    omega (arith, c.digit-a.ensures, c.digit-b.ensures)

pub returns : goal.returns
returns c =
    sym (byte_past c.args.line.now c.args.i (search rules))
