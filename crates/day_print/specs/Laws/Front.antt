-- What stands at the front of the buffer is the day.
-- Assumes nothing.
use Rattle.std.specs.Prelude.{◌≡◌, refl, List, ℕ, suc, ◌+◌, ◌*◌, length, Ok}
use Rattle.std.proofs.Common.{ap, ◌∙◌, arith}
use Rattle.tables.specs.Lent.{rules}
use Rattle.day_input.specs.declared.Plan.{Plan}
use Rattle.day_input.specs.Planned.{opening_of}
use Rattle.day_run.specs.Laws.Model.{one_model}
use Rattle.day_lines.specs.Lines.{minute_lines, LINE}
use Rattle.day_lines.specs.Written.{Written}
use Rattle.day_lines.proofs.Laws.Lines.{lines_size, lines_front}
use Rattle.day_print.specs.Day.{AfterOpening}
use Rattle.day_print.specs.Ready.{Ready}

-- the lines in the buffer are those of the canonical execution model
pub front_lines : (plan : Plan) (p t tape out out' : List ℕ) → Ready plan p t tape out → Written (rules plan.counts p t) tape (suc plan.last) out out' → (n : ℕ) → n ≡ LINE * (plan.last + 1)
    → AfterOpening (opening_of plan p t tape) out (Ok n) out'
front_lines plan p t tape out out' ok w n e =
    let m = one_model (rules plan.counts p t) tape ok.input in
    let s : List ℕ = minute_lines m.0 (suc plan.last) in
    let size = lines_size m.0 (suc plan.last) in
    record {
      printed = s;
      day = record { trace = m.0; model = m.1; lines = refl };
      answer = ap Ok (let q : n ≡ length s = omega (arith, e, size) in q);
      buffer = w.holds m.0 m.1 ∙ lines_front out s (LINE * suc plan.last) size;
    }
