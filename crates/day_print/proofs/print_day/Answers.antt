-- `day_print::print_day` meets its contract: the code's own opening is the input's.
-- Assumes nothing.
use mathlib.Core.Path.{refl}
use Rattle.answers.proofs.Laws.{handed_on}
use Rattle.day_input.proofs.Laws.{part_rest}
use Rattle.day_run.specs.Laws.Opened.{plan_opens, plan_refuses}
use Rattle.day_print.specs.Laws.Opened.{opened_ready, opened_back, refused_back}
use borrow.Author.Rules.{rules}
use Rattle.day_print.proofs.print_day.Goals as goal

pub slice_bounds-print_lines-count : goal.slice_bounds-print_lines-count
slice_bounds-print_lines-count c =
    let x = (plan_opens _ _ _ _ c.open.ensures _ c.in_ok-plan.was).inside in search rules

pub slice_bounds-print_lines-start : goal.slice_bounds-print_lines-start
slice_bounds-print_lines-start c =
    let y = (plan_opens _ _ _ _ c.open.ensures _ c.in_ok-plan.was).inside in search rules

pub print_lines-requires : goal.print_lines-requires
print_lines-requires c =
    let x = plan_opens _ _ _ _ c.open.ensures _ c.in_ok-plan.was in
    opened_ready _ _ _ _ x _ (part_rest c.args.input.now c.in_ok-plan.plan.from) _ c.requires

pub returns : goal.returns
returns c =
    let y = plan_opens _ _ _ _ c.open.ensures _ c.in_ok-plan.was in
    opened_back _ _ _ _ y _ (part_rest c.args.input.now c.in_ok-plan.plan.from) _ _ _ c.print_lines.ensures

pub returns-in_err-plan : goal.returns-in_err-plan
returns-in_err-plan c =
    refused_back _ _ (plan_refuses _ _ _ _ c.open.ensures _ c.in_err-plan.was) _ _ _ (handed_on _ _ c.from_residual.ensures.1, refl)
