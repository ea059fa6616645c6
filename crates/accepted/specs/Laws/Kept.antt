-- A frame that passed leaves what was read so far in order: the header where it may stand, a row of either kind, or the end.
-- Assumes nothing.
use Rattle.std.specs.Prelude.{◌≡◌, true, ◌||◌, List, ℕ}
use Rattle.std.proofs.Common.{sym}
use Rattle.std.proofs.Math.Path.{subst}
use Rattle.std.proofs.Math.Logic.{⊎_elim}
use Rattle.std.proofs.lemmas.Bool.{false≢true}
use Rattle.std.proofs.Math.Dec.{eqb}
use borrow.Author.Tests.{eqb-true}
use Rattle.theory.proofs.Laws.Tests.{or_cases}
use Rattle.kinds.specs.declared.Stage.{Stage}
use Rattle.kinds.specs.declared.Stage.TheVariants.{Start, Rows, Ended}
use Rattle.kinds.specs.Kinds.{HEADER, PERIODIC, TRIGGER, END, kind, may_stand}
use Rattle.row_counts.specs.Laws.{room_periodics, room_triggers}
use Rattle.sheet_acts.specs.Acts.{Progress, after}
use Rattle.sheet_tests.specs.Laws.{Passed}
use Rattle.accepted.specs.Laws.Fields.{header_says, periodic_fits_lem, trigger_fits_lem}
use Rattle.accepted.specs.Laws.After.{after_header, after_periodic, after_trigger, after_end_lem}
use Rattle.accepted.specs.Laws.SoFar.{InOrder, SoFar, header_keeps, periodic_keeps, trigger_keeps, end_keeps}

module _ (s : Progress) (f : List ℕ) (x : SoFar s) (p : Passed s.seen f) where
  abbrev k : ℕ
  k = kind f

  -- by the stage before it
  kept_at : (g : Stage) → may_stand g k ≡ true → InOrder g s → SoFar (after s f)
  unfolding may_stand
  kept_at Start m z =
      let e : k ≡ HEADER = eqb-true k HEADER m in
      subst SoFar (sym (after_header s f e)) (header_keeps s f x z (header_says s.seen.counts.roles f e p.fit))
  kept_at Rows m g =
      ⊎_elim
      (λ (a : eqb k PERIODIC ≡ true).
      let e : k ≡ PERIODIC = eqb-true k PERIODIC a in
      subst SoFar (sym (after_periodic s f e))
      (periodic_keeps s f x g (room_periodics k _ _ p.room e) (periodic_fits_lem s.seen.counts.roles f e p.fit)))
      (λ (b : (eqb k TRIGGER || eqb k END) ≡ true).
      ⊎_elim
      (λ (c : eqb k TRIGGER ≡ true).
      let e : k ≡ TRIGGER = eqb-true k TRIGGER c in
      subst SoFar (sym (after_trigger s f e))
      (trigger_keeps s f x g (room_triggers k _ _ p.room e) (trigger_fits_lem s.seen.counts.roles f e p.fit)))
      (λ (d : eqb k END ≡ true). subst SoFar (sym (after_end_lem s f (eqb-true k END d))) (end_keeps s f x g))
      (or_cases (eqb k TRIGGER) (eqb k END) b))
      (or_cases (eqb k PERIODIC) (eqb k TRIGGER || eqb k END) m)
  kept_at Ended m g = absurd (false≢true m)

  pub kept : SoFar (after s f)
  kept = kept_at s.seen.stage p.stands x.in_order
