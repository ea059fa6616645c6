-- Laws of what a frame does: its row is put into its table, and it is one line more.
-- Assumes nothing.
use Rattle.std.specs.Prelude.{◌≡◌, refl, true, false, List, ℕ, ◌+◌, ◌*◌, eqb, length}
use Rattle.std.proofs.Common.{⊎_elim, eq-eqb, ne_eqb}
use Rattle.std.proofs.Math.Seq.{paste}
use Rattle.theory.proofs.Laws.Tests.{test}
use Rattle.kinds.specs.Kinds.{HEADER, PERIODIC, TRIGGER}
use Rattle.sheet_tests.specs.declared.Seen.{Seen}
use Rattle.sheet_acts.specs.Acts.{seen_after, table_after}
pub mod Exact

-- a table after a frame of its kind w, whose row of so many bytes is put at row n, and after any other frame
pub table_put : (k w n at size : ℕ) (row row' table : List ℕ) → k ≡ w → row ≡ row' → length row' ≡ size → at ≡ size * n → paste table at row (length row) ≡ table_after k w n row' table
unfolding table_after
table_put k w n at size row row' table e p z h = rw (eq-eqb k w e, p, h, z) refl

pub table_kept : (k w n : ℕ) (row table : List ℕ) → ¬ (k ≡ w) → table ≡ table_after k w n row table
unfolding table_after
table_kept k w n row table e = rw (ne_eqb k w e) refl

-- a line that goes on is one line more
pub seen_line : (k r : ℕ) (s : Seen) → (seen_after k r s).line ≡ s.line + 1
unfolding seen_after
seen_line k r s =
    ⊎_elim
    (λ (a : eqb k HEADER ≡ true). rw a)
    (λ (a : eqb k HEADER ≡ false).
    rw a
    (⊎_elim
    (λ (b : eqb k PERIODIC ≡ true). rw b)
    (λ (b : eqb k PERIODIC ≡ false).
    rw b (⊎_elim (λ (d : eqb k TRIGGER ≡ true). rw d) (λ (d : eqb k TRIGGER ≡ false). rw d) (test (eqb k TRIGGER))))
    (test (eqb k PERIODIC))))
    (test (eqb k HEADER))
