-- `fields::frame_fits` meets its contract: each kind has its own test.
-- Assumes nothing.
use borrow.Author.Tests.{eq-eqb, ne_eqb}
use Rattle.fields.specs.Fields.{frame_fits}
use Rattle.fields.proofs.frame_fits.Goals as goal

pub returns-then-k-eq-HEADER : goal.returns-then-k-eq-HEADER
unfolding frame_fits
returns-then-k-eq-HEADER c =
    rw (eq-eqb _ _ c.if-k-eq-HEADER.true) (cc)

pub returns-then-k-eq-PERIODIC : goal.returns-then-k-eq-PERIODIC
unfolding frame_fits
returns-then-k-eq-PERIODIC c =
    rw (ne_eqb _ _ c.if-k-eq-HEADER.false, eq-eqb _ _ c.if-k-eq-PERIODIC.true) (cc)

pub returns-then-k-eq-TRIGGER : goal.returns-then-k-eq-TRIGGER
unfolding frame_fits
returns-then-k-eq-TRIGGER c =
    rw (ne_eqb _ _ c.if-k-eq-HEADER.false, ne_eqb _ _ c.if-k-eq-PERIODIC.false, eq-eqb _ _ c.if-k-eq-TRIGGER.true) (cc)

pub returns : goal.returns
unfolding frame_fits
returns c =
    search (eq-eqb, ne_eqb)
