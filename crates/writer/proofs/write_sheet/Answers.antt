-- `writer::write_sheet` meets its contract: by the verdict the sheet is put into the buffer, or nothing is.
-- Assumes nothing.
use mathlib.Core.Path.{sym, subst, ◌∙◌}
use Rattle.std.specs.Prelude.{Result}
use Prim.Native.Nat.{ℕ}
use Rattle.answers.specs.declared.Refusal.{Refusal}
use Rattle.answers.proofs.Laws.{handed_on}
use Rattle.tables.specs.Lent.{rules_of}
use Rattle.writer.specs.Outcome.{WriteOutcome}
use Rattle.writer.proofs.Laws.Exact.{passes_say, passes_good, was_passed, was_refused}
use Rattle.writer.proofs.write_sheet.Goals as goal

pub unwrap-whole-requires : goal.unwrap-whole-requires
unwrap-whole-requires c =
    let a = c.args in
    let R = rules_of a.given.now in
    let p = sym c.judge_writing.ensures ∙ c.in_ok-judge_writing.was in
    c.as_mut_array.ensures.variant.1 (passes_say R _ p).buffer

pub put_sheet-requires : goal.put_sheet-requires
put_sheet-requires c =
    let a = c.args in
    let R = rules_of a.given.now in
    (passes_good R _ (sym c.judge_writing.ensures ∙ c.in_ok-judge_writing.was)).0

pub returns : goal.returns
returns c =
    let a = c.args in
    let R = rules_of a.given.now in
    let whole = (rw c.unwrap-whole.ensures at c.as_mut_array.ensures.cases).same in
    was_passed R _ _ c.judge_writing.ensures c.in_ok-judge_writing.was c.put_sheet.ensures.periodic_bytes c.put_sheet.ensures.trigger_bytes _ _ (rw whole at c.put_sheet.ensures.puts)

pub returns-in_err-judge_writing : goal.returns-in_err-judge_writing
returns-in_err-judge_writing c =
    let a = c.args in
    let R = rules_of a.given.now in
    subst (λ (r : Result ℕ Refusal). WriteOutcome R a.out.now r a.out.now) (sym (handed_on _ _ c.from_residual.ensures.1))
    (was_refused R _ _ c.judge_writing.ensures _ c.in_err-judge_writing.was)
