-- The paper's execution model of a good input: there is exactly one, and a run of any length that follows it.
-- Assumes nothing.
use Rattle.std.proofs.Common.{sym, subst}
use Rattle.std.specs.Prelude.{List, ℕ}
use Rattle.theory.specs.Below.{ExactlyOne}
use Rattle.theory.specs.Events.{Events}
use Rattle.theory.specs.Sheet.{GoodOrder}
use Rattle.theory.specs.Graph.{NoLoop}
use Rattle.theory.specs.Model.{Stream, Trace, no_roles}
use Rattle.theory.specs.Box.{State, Within, Follows}
use Rattle.theory.proofs.Laws.Run.{exactly_one_model, run_exists, canonical_run}
use Rattle.text.specs.Lines.{lines}
use Rattle.tables.specs.Layout.{sheet_of}
use Rattle.tables.specs.Lent.{Rules, sheet_in}
use Rattle.table_judge.proofs.Laws.{judge_passes}
use Rattle.tape.specs.Tape.{asks_in}
use Rattle.tape.specs.Laws.Fine.{fine_within}
use Rattle.day_run.specs.Run.{GoodInput, RunOf, ModelOf}

module _ (R : Rules) (tape : List ℕ) (ok : GoodInput R tape) where
  abbrev RQ : Stream
  RQ = asks_in (lines tape)

  pub good_sheet : GoodOrder (sheet_in R) × NoLoop (sheet_in R)
  good_sheet = judge_passes (sheet_in R) ok.tables

  within : Within (sheet_in R) RQ
  unfolding sheet_of
  within u d e p h = fine_within R.counts.roles 0 0 (lines tape) ok.tape_fine u d e p h

  pub one_model : ExactlyOne (ModelOf R tape)
  one_model = exactly_one_model (sheet_in R) good_sheet.0 good_sheet.1 no_roles RQ within

  pub run_of : (n : ℕ) → (state : ℕ → State) × (events : ℕ → Events) × RunOf R tape n state events × ((tr : Trace) → ModelOf R tape tr → Follows n state events tr)
  run_of n =
      let x = run_exists (sheet_in R) good_sheet.0 good_sheet.1 n no_roles RQ in
      let c = canonical_run (sheet_in R) good_sheet.0 good_sheet.1 n RQ x.0 x.1 x.2 within in
      (x.0, x.1, x.2, λ tr m. subst (Follows n x.0 x.1) (sym (c.2 tr m)) c.3)
