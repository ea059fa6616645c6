-- `tape_batches::take_batch` meets its contract. The loop's invariant: what is taken from the cursor on, and what is left then, stay the same. The measure is what is left of the tape.
-- Assumes nothing.
use Rattle.std.proofs.Common.{◌≡◌, ◌-◌, length, drop}
use Rattle.text.specs.Lines.{lines}
use Rattle.requests.specs.Flat.{FLAT_NUMBERS}
use Rattle.tape_batches.specs.Batch.{takes, rest, none_yet}
use Rattle.tape_batches.specs.Laws.{batch_of, Taking}
use Rattle.tape_batches.proofs.take_batch.Given as goal

abbrev pub invariant-loop-line : goal.invariant-loop-line
invariant-loop-line l =
    (length l.asked ≡ FLAT_NUMBERS) × Taking l.t l.tape (batch_of l.asked l.n l.next) (takes l.t (lines (drop l.at l.tape)) (none_yet l.at)) (rest l.t (lines (drop l.at l.tape)) 0)

abbrev pub decreases-loop-line : goal.decreases-loop-line
decreases-loop-line l =
    length l.tape - l.next
