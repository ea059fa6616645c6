-- `fields::first_bad_header` meets its contract: the tests before each return have passed, and there the next one fails.
-- Assumes nothing.
use mathlib.Core.Path.{refl}
use borrow.Author.Tests.{eq-eqb, ne_eqb, le-leb, lt-leb}
use Rattle.fields.proofs.first_bad_header.Goals as goal

pub returns-then-version-ne-VERSION : goal.returns-then-version-ne-VERSION
returns-then-version-ne-VERSION c =
    rw (ne_eqb _ _ c.if-version-ne-VERSION.true) refl

pub returns-then-roles-lt1 : goal.returns-then-roles-lt1
returns-then-roles-lt1 c =
    rw (eq-eqb _ _ c.if-version-ne-VERSION.false, lt-leb _ _ c.if-roles-lt1.true) refl

pub returns-then-roles-gt-ROLES : goal.returns-then-roles-gt-ROLES
returns-then-roles-gt-ROLES c =
    rw (eq-eqb _ _ c.if-version-ne-VERSION.false, le-leb _ _ c.if-roles-lt1.false, lt-leb _ _ c.if-roles-gt-ROLES.true) refl

pub returns : goal.returns
returns c =
    rw (eq-eqb _ _ c.if-version-ne-VERSION.false, le-leb _ _ c.if-roles-lt1.false, le-leb _ _ c.if-roles-gt-ROLES.false) refl
