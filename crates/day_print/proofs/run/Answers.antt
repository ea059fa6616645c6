-- `day_print::run` meets its contract. The loop's invariant is the run's `Standing` and what is `Written`: before each instant the state is that of any run, the tape stands at its requests, and the lines so far are in the buffer.
-- Assumes nothing.
use mathlib.Core.Path.{refl}
use lib.ListN.{replicate}
use Rattle.theory.specs.Numbers.{EVENTS}
use Rattle.day_run.specs.Laws.Minute.{standing_start, standing_next}
use Rattle.day_lines.proofs.Laws.Written.{written_none, written_next, written_all}
use borrow.Author.Rules.{rules as search_rules}
use native.Mathlib.Omega.{arith}
use Rattle.day_print.proofs.run.Goals as goal

pub loop-t-init : goal.loop-t-init
loop-t-init c =
    (standing_start _ _ c.requires.input (replicate EVENTS 0) refl, written_none _ _ _)

pub loop-t-preserved : goal.loop-t-preserved
loop-t-preserved c =
    let o = c.day_minute-turn.ensures in (
      standing_next _ _ c.requires.input _ (search search_rules) _ _ c.loop-t.invariant.0 _ _ o,
      written_next _ _ c.requires.input _ (search search_rules) _ _ c.loop-t.invariant.0 _ _ o _ c.count-n.ensures _ c.minute_frame-frame.ensures _ _ _ (search search_rules) c.loop-t.invariant.1 c.put_line.ensures,
    )

pub returns : goal.returns
returns c =
    written_all _ _ _ _ _ _ (omega arith) (omega arith) c.loop-t.invariant.1
