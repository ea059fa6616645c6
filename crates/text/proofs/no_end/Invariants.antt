-- `text::no_end` meets its contract. The loop's invariant: where none of the first k characters is a line end, the line goes on for k characters.
-- Assumes nothing.
use Rattle.std.proofs.Common.{◌≡◌, true, ◌+◌, drop}
use Rattle.text.specs.Lines.{span}
use Rattle.text.proofs.no_end.Given as goal

abbrev pub invariant-loop-k : goal.invariant-loop-k
invariant-loop-k l = l.none ≡ true → span (drop l.i l.text) ≡ l.k + span (drop (l.i + l.k) l.text)
