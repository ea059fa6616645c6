-- `text::all_digits` meets its contract. The loop's invariant: all are digits where those before the index are and those from it on are.
-- Assumes nothing.
use Rattle.std.proofs.Common.{◌≡◌, drop}
use Rattle.std.specs.Prelude.{◌&&◌}
use Rattle.text.specs.Framed.{all_digits}
use Rattle.text.proofs.all_digits.Given as goal

abbrev pub invariant-loop-c : goal.invariant-loop-c
invariant-loop-c l =
    (l.all && all_digits (drop l.c-index l.line)) ≡ all_digits l.line
