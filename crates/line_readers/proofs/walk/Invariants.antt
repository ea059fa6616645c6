-- `line_readers::walk` meets its contract. The loop's invariant: what the lines from `at` on make of what was read so far is what all of them make of what was read before.
-- A line is at least one byte, so there are no more lines than bytes. The measure is what is left of the text.
-- Assumes nothing.
use mathlib.Core.Path.{◌≡◌}
use Prim.Native.Nat.{◌+◌, ◌-◌, ◌≤◌}
use lib.ListN.{length, drop}
use Rattle.text.specs.Lines.{lines}
use Rattle.line_readers.specs.Walks.{goes, walks}
use Rattle.line_readers.proofs.walk.Given as goal

abbrev pub invariant-loop-line : goal.invariant-loop-line
invariant-loop-line g l =
    let R = g.R.LineReader in
    let reader = R.reader l.initial.reader in
    ((l.at ≤ length l.text) × (reader.read (R.so_far l.reader) ≤ reader.read (R.so_far l.initial.reader) + l.at))
    × (R.reader l.reader ≡ reader)
    × (walks reader (goes (R.so_far l.reader)) (lines (drop l.at l.text)) ≡ walks reader (goes (R.so_far l.initial.reader)) (lines l.text))

abbrev pub decreases-loop-line : goal.decreases-loop-line
decreases-loop-line g l =
    length l.text - l.at
