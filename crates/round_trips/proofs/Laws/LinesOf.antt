-- The lines of one kind among lines: how many there are, and the rows of their frames, byte by byte.
-- Assumes nothing.
use Rattle.std.specs.Prelude.{◌≡◌, refl, Bool, true, false, cond, List, [], ◌∷◌, ◌++◌, ℕ, zero, suc, ◌+◌, ◌-◌, ◌*◌, ◌≤◌, ◌<◌, eqb, length, get_or, replicate}
use Rattle.std.proofs.Common.{ap, ◌∙◌, ⊎_elim, mul-suc, mul-le-mul_left, arith, length-append, get_or-append-add, eq-eqb, ne_eqb}
use Rattle.std.proofs.lemmas.List.{length-replicate}
use Rattle.std.proofs.Math.ListN.{get_or-append}
use Rattle.theory.proofs.Laws.Tests.{test}
use Rattle.frames.specs.Frame.{bytes_of}
use Rattle.tables.specs.Layout.{byte_at, padded}
use Rattle.kinds.specs.Kinds.{kind}
use Rattle.line_by_line.specs.Tests.{how_many}
use Rattle.line_by_line.specs.ComesBack.{frames_of, rows_of}
use Rattle.line_by_line.proofs.Laws.Frames.{count_more, rows_length}
use Rattle.round_trips.specs.Order.{lines_of_kind}

-- the frames of a kind, where one frame more is of it, and where it is not
pub counted : (k : ℕ) (fs : List (List ℕ)) (f : List ℕ) → kind f ≡ k → how_many k (fs ++ f ∷ []) ≡ how_many k fs + 1
counted k fs f e = count_more k fs f ∙ ap (λ (t : Bool). cond t (how_many k fs + 1) (how_many k fs)) (eq-eqb (kind f) k e)

pub kept : (k : ℕ) (fs : List (List ℕ)) (f : List ℕ) → ¬ (kind f ≡ k) → how_many k (fs ++ f ∷ []) ≡ how_many k fs
kept k fs f e = count_more k fs f ∙ ap (λ (t : Bool). cond t (how_many k fs + 1) (how_many k fs)) (ne_eqb (kind f) k e)

-- byte j of row i of n, each of w bytes
row_inside : (w i n j : ℕ) → i < n → j < w → w * i + j < w * n
row_inside w i n j h b = omega (arith, mul-suc w i, mul-le-mul_left w h)

-- ---- one line more in front, and lines one after the other

module _ (k : ℕ) where
  pub of_this : (l : List ℕ) (ls : List (List ℕ)) → kind (bytes_of l) ≡ k → lines_of_kind k (l ∷ ls) ≡ l ∷ lines_of_kind k ls
  of_this l ls e = rw (eq-eqb (kind (bytes_of l)) k e)

  pub of_other : (l : List ℕ) (ls : List (List ℕ)) → ¬ (kind (bytes_of l) ≡ k) → lines_of_kind k (l ∷ ls) ≡ lines_of_kind k ls
  of_other l ls e = rw (ne_eqb (kind (bytes_of l)) k e)

  pub of_append : (ls ms : List (List ℕ)) → lines_of_kind k (ls ++ ms) ≡ lines_of_kind k ls ++ lines_of_kind k ms
  of_append [] ms = refl
  of_append (l ∷ ls) ms =
      ⊎_elim
      (λ (a : eqb (kind (bytes_of l)) k ≡ true). rw a (ap (λ (r : List (List ℕ)). l ∷ r) (of_append ls ms)))
      (λ (a : eqb (kind (bytes_of l)) k ≡ false). rw a (of_append ls ms))
      (test (eqb (kind (bytes_of l)) k))

  -- all of them are of this kind, or none is
  pub of_all : (ls : List (List ℕ)) → ((i : ℕ) → i < length ls → kind (bytes_of (get_or ls i [])) ≡ k) → lines_of_kind k ls ≡ ls
  of_all [] h = refl
  of_all (l ∷ ls) h = of_this l ls (h 0 (omega arith)) ∙ ap (λ (r : List (List ℕ)). l ∷ r) (of_all ls (λ i b. h (suc i) (omega arith)))

  pub of_none : (ls : List (List ℕ)) → ((i : ℕ) → i < length ls → ¬ (kind (bytes_of (get_or ls i [])) ≡ k)) → lines_of_kind k ls ≡ []
  of_none [] h = refl
  of_none (l ∷ ls) h = of_other l ls (h 0 (omega arith)) ∙ of_none ls (λ i b. h (suc i) (omega arith))

  -- they are as many as their frames
  pub count_of : (ls : List (List ℕ)) → how_many k (frames_of ls) ≡ length (lines_of_kind k ls)
  count_of [] = refl
  count_of (l ∷ ls) =
      ⊎_elim
      (λ (a : eqb (kind (bytes_of l)) k ≡ true). rw a (ap suc (count_of ls)))
      (λ (a : eqb (kind (bytes_of l)) k ≡ false). rw a (count_of ls))
      (test (eqb (kind (bytes_of l)) k))

  -- ---- the rows of their frames, of so many bytes each

  module _ (row : List ℕ → List ℕ) (w : ℕ) (wide : (f : List ℕ) → length (row f) ≡ w) where
    -- row i of a line in front and of those after it
    first_row : (l : List ℕ) (rest : List ℕ) (j : ℕ) → j < w → byte_at (row (bytes_of l) ++ rest) (w * 0 + j) ≡ byte_at (row (bytes_of l)) j
    first_row l rest j b =
        let z : w * 0 + j ≡ j = omega arith in
        ap (byte_at (row (bytes_of l) ++ rest)) z ∙ get_or-append (row (bytes_of l)) rest 0 j (omega (arith, wide (bytes_of l)))

    next_row : (l : List ℕ) (rest : List ℕ) (i j : ℕ) → byte_at (row (bytes_of l) ++ rest) (w * suc i + j) ≡ byte_at rest (w * i + j)
    next_row l rest i j =
        let z : w * suc i + j ≡ length (row (bytes_of l)) + (w * i + j) = omega (arith, wide (bytes_of l), mul-suc w i) in
        ap (byte_at (row (bytes_of l) ++ rest)) z ∙ get_or-append-add (row (bytes_of l)) rest (w * i + j) 0

    pub row_at : (ls : List (List ℕ)) (i j : ℕ) → i < length (lines_of_kind k ls) → j < w → byte_at (rows_of k row (frames_of ls)) (w * i + j) ≡ byte_at (row (bytes_of (get_or (lines_of_kind k ls) i []))) j
    row_at [] i j h b = absurd (omega arith)
    row_at (l ∷ ls) i j h b =
        ⊎_elim
        (λ (a : eqb (kind (bytes_of l)) k ≡ true). rw a (by_index i (rw a at h) (λ m g. row_at ls m j g b)))
        (λ (a : eqb (kind (bytes_of l)) k ≡ false). rw a (row_at ls i j (rw a at h) b))
        (test (eqb (kind (bytes_of l)) k))
      where
        by_index : (m : ℕ) → m < length (l ∷ lines_of_kind k ls)
            → ((n : ℕ) → n < length (lines_of_kind k ls) → byte_at (rows_of k row (frames_of ls)) (w * n + j) ≡ byte_at (row (bytes_of (get_or (lines_of_kind k ls) n []))) j)
            → byte_at (row (bytes_of l) ++ rows_of k row (frames_of ls)) (w * m + j) ≡ byte_at (row (bytes_of (get_or (l ∷ lines_of_kind k ls) m []))) j
        by_index zero g later = first_row l (rows_of k row (frames_of ls)) j b
        by_index (suc n) g later = next_row l (rows_of k row (frames_of ls)) n j ∙ later n (omega arith)

    -- and in a table that holds them
    pub in_table : (size : ℕ) (ls : List (List ℕ)) (i j : ℕ) → i < length (lines_of_kind k ls) → j < w
        → byte_at (padded size (rows_of k row (frames_of ls))) (w * i + j) ≡ byte_at (row (bytes_of (get_or (lines_of_kind k ls) i []))) j
    in_table size ls i j h b =
        let rows : List ℕ = rows_of k row (frames_of ls) in
        let n : length rows ≡ w * length (lines_of_kind k ls) = rows_length k row w wide (frames_of ls) ∙ ap (λ (m : ℕ). w * m) (count_of ls) in
        get_or-append rows (replicate (size - length rows) 0) 0 (w * i + j) (omega (arith, n, row_inside w i (length (lines_of_kind k ls)) j h b)) ∙ row_at ls i j h b

    -- past them stands zero
    pub past_rows : (size : ℕ) (ls : List (List ℕ)) (x : ℕ) → w * length (lines_of_kind k ls) ≤ x → byte_at (padded size (rows_of k row (frames_of ls))) x ≡ 0
    past_rows size ls x h =
        let rows : List ℕ = rows_of k row (frames_of ls) in
        let n : length rows ≡ w * length (lines_of_kind k ls) = rows_length k row w wide (frames_of ls) ∙ ap (λ (m : ℕ). w * m) (count_of ls) in
        let z : x ≡ length rows + (x - length rows) = omega arith in
        ap (byte_at (padded size rows)) z ∙ get_or-append-add rows (replicate (size - length rows) 0) (x - length rows) 0 ∙ zeros (size - length rows) (x - length rows)
      where
        zeros : (n i : ℕ) → byte_at (replicate n 0) i ≡ 0
        zeros zero i = refl
        zeros (suc n) zero = refl
        zeros (suc n) (suc i) = zeros n i

    pub table_length : (size : ℕ) (ls : List (List ℕ)) → w * length (lines_of_kind k ls) ≤ size → length (padded size (rows_of k row (frames_of ls))) ≡ size
    table_length size ls h =
        let rows : List ℕ = rows_of k row (frames_of ls) in
        let n : length rows ≡ w * length (lines_of_kind k ls) = rows_length k row w wide (frames_of ls) ∙ ap (λ (m : ℕ). w * m) (count_of ls) in
        omega (arith, length-append rows (replicate (size - length rows) 0), length-replicate {A = ℕ} (size - length rows) 0)
