-- One frame more: how many there are of a kind, and the rows of a kind, which fill their table.
-- Assumes nothing.
use Rattle.std.specs.Prelude.{◌≡◌, refl, true, false, cond, List, [], ◌∷◌, ◌++◌, ℕ, ◌+◌, ◌*◌, ◌-◌, ◌≤◌, length, drop, replicate}
use Rattle.std.proofs.Common.{sym, ap, ◌∙◌, append-nil, append_assoc, arith, length-append, take_at, drop_at, eqb-true}
use Rattle.std.proofs.Math.Logic.{⊎_elim}
use Rattle.std.proofs.Math.Dec.{eqb}
use Rattle.std.proofs.lemmas.List.{length-replicate, replicate-append-replicate}
use Rattle.std.proofs.Math.Seq.{paste, take-length, drop-append-add}
use Rattle.theory.proofs.Laws.Tests.{test}
use Rattle.kinds.specs.Kinds.{kind}
use Rattle.sheet_acts.specs.Acts.{table_after}
use Rattle.line_by_line.specs.Tests.{how_many}
use Rattle.tables.specs.Layout.{padded}
use Rattle.line_by_line.specs.ComesBack.{rows_of}

-- ---- one frame more, at the end

-- it counts for its own kind
pub count_more : (k : ℕ) (fs : List (List ℕ)) (f : List ℕ) → how_many k (fs ++ f ∷ []) ≡ cond (eqb (kind f) k) (how_many k fs + 1) (how_many k fs)
count_more k [] f = refl
count_more k (g ∷ fs) f =
    ⊎_elim
    (λ (a : eqb (kind g) k ≡ true).
    ⊎_elim
    (λ (b : eqb (kind f) k ≡ true). rw (a, count_more k fs f, b) (omega arith))
    (λ (b : eqb (kind f) k ≡ false). rw (a, count_more k fs f, b))
    (test (eqb (kind f) k)))
    (λ (a : eqb (kind g) k ≡ false). rw a (count_more k fs f))
    (test (eqb (kind g) k))

module _ (k : ℕ) (row : List ℕ → List ℕ) where
  -- its row comes last
  pub rows_more : (fs : List (List ℕ)) (f : List ℕ) → rows_of k row (fs ++ f ∷ []) ≡ rows_of k row fs ++ cond (eqb (kind f) k) (row f) []
  rows_more [] f = append-nil (cond (eqb (kind f) k) (row f) [])
  rows_more (g ∷ fs) f =
      let r : List ℕ = cond (eqb (kind g) k) (row g) [] in
      ap (λ (x : List ℕ). r ++ x) (rows_more fs f) ∙ sym (append_assoc r (rows_of k row fs) (cond (eqb (kind f) k) (row f) []))

  -- rows of so many bytes each
  pub rows_length : (w : ℕ) → ((f : List ℕ) → length (row f) ≡ w) → (fs : List (List ℕ)) → length (rows_of k row fs) ≡ w * how_many k fs
  rows_length w wide [] = omega arith
  rows_length w wide (f ∷ fs) =
      ⊎_elim
      (λ (a : eqb (kind f) k ≡ true). rw (a, length-append (row f) (rows_of k row fs), wide f, rows_length w wide fs) (omega arith))
      (λ (a : eqb (kind f) k ≡ false). rw a (rows_length w wide fs))
      (test (eqb (kind f) k))

-- ---- a row more in its table

-- zeros without the first of them
drop_zeros : (n m : ℕ) → n ≤ m → drop {A = ℕ} n (replicate m 0) ≡ replicate (m - n) 0
drop_zeros n m h =
    let e : n + (m - n) ≡ m = omega arith in
    ap (λ (k : ℕ). drop {A = ℕ} n (replicate k 0)) (sym e)
    ∙ ap (drop n) (sym (replicate-append-replicate n (m - n) 0))
    ∙ drop_at (replicate n 0) (replicate (m - n) 0) n (length-replicate n 0)

module _ (size : ℕ) (rows row : List ℕ) where
  -- the zeros after the rows
  abbrev left : ℕ
  left = size - length rows

  -- a row that is put after the rows takes the place of as many zeros
  row_pasted : length rows + length row ≤ size → paste (padded size rows) (length rows) row (length row) ≡ padded size (rows ++ row)
  row_pasted room =
      let zeros : List ℕ = replicate left 0 in
      let n : left - length row ≡ size - length (rows ++ row) = omega (arith, length-append rows row) in
      let at : drop (length rows + length row) (rows ++ zeros) ≡ replicate (size - length (rows ++ row)) 0
      = drop-append-add rows zeros (length row)
      ∙ drop_zeros (length row) left (omega arith)
      ∙ ap (λ (k : ℕ). replicate {A = ℕ} k 0) n in
      rw (take_at rows zeros (length rows) refl, take-length row, at)

  -- a table after a frame of kind k, where it is that of kind w and n rows were read
  pub table_after_lem : (k w n : ℕ) → length rows ≡ length row * n → (k ≡ w → length rows + length row ≤ size) → table_after k w n row (padded size rows) ≡ padded size (rows ++ cond (eqb k w) row [])
  unfolding table_after
  table_after_lem k w n e room =
      ⊎_elim
      (λ (a : eqb k w ≡ true). rw a (ap (λ (at : ℕ). paste (padded size rows) at row (length row)) (sym e) ∙ row_pasted (room (eqb-true k w a))))
      (λ (a : eqb k w ≡ false). rw a (ap (padded size) (sym (append-nil rows))))
      (test (eqb k w))
