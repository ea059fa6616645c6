-- What a day's input prints: the instants that were found are a run of the box, which is the paper's execution model as far as it goes, and so the lines of what was found are its lines.
-- Assumes nothing.
use Rattle.std.specs.Prelude.{◌≡◌, true, ℕ, suc, ◌≤◌}
use Rattle.std.proofs.Common.{sym, ◌∙◌, subst, arith}
use Rattle.theory.specs.Events.{Events}
use Rattle.theory.specs.Sheet.{GoodOrder}
use Rattle.theory.specs.Graph.{NoLoop}
use Rattle.theory.specs.Model.{no_roles}
use Rattle.theory.specs.Box.{State, Fresh, Run, Within}
use Rattle.theory.proofs.Laws.Run.{canonical_run}
use Rattle.day_input.specs.Opening.{Opening, opens, opening}
use Rattle.day_lines.proofs.Laws.Lines.{lines_same}
use Rattle.day_print.specs.Day.{Prints, PrintsDay}
use Rattle.examples.specs.Written.{among, stream_of}
use Rattle.examples.specs.Day.{text, Day, sheet_of_day, minute_at, state_before, Found}
use Rattle.examples.proofs.Laws.Passes.{found_trace, lines_found}
use Rattle.examples.proofs.Laws.Read.{same_is}

module _ (d : Day) (good : GoodOrder (sheet_of_day d)) (nl : NoLoop (sheet_of_day d)) (fresh : Fresh no_roles (state_before d.minutes 0)) (found : (t : ℕ) → t ≤ d.last → Found d t)
    (within : Within (sheet_of_day d) (stream_of d.requests)) (h : lines_found d ≡ true) where
  abbrev state : ℕ → State
  state = state_before d.minutes

  abbrev events : ℕ → Events
  events t = among (minute_at d.minutes t).events

  -- the instants that were found, as a run
  run : Run (suc d.last) no_roles (sheet_of_day d) (stream_of d.requests) state events
  run = record { fresh = fresh; step = λ t l. (found t (omega arith)).step }

  -- THE LAW
  prints_lines : PrintsDay (sheet_of_day d) (stream_of d.requests) d.last (text d.output)
  unfolding lines_found
  prints_lines =
      let c = canonical_run (sheet_of_day d) good nl (suc d.last) (stream_of d.requests) state events run within in
      record {
        trace = c.0;
        model = c.1;
        lines = same_is (text d.output) _ h
            ∙ lines_same (suc d.last) (found_trace d.minutes) c.0 (λ t l. (c.3.same_events t l, c.3.same_roles (suc t) (omega arith)));
      }

  pub prints_found : opening (text d.input) ≡ opens (sheet_of_day d) (stream_of d.requests) d.last → Prints (opening (text d.input)) (text d.output)
  prints_found o = subst (λ (x : Opening). Prints x (text d.output)) (sym o) prints_lines
