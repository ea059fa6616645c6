-- The judge of a line, with what was read so far, is its tests by their names, in document 01's order. Only KIND is said in other words: known, of its size and in its place.
-- Assumes nothing.
use Rattle.std.specs.Prelude.{◌≡◌, refl, Bool, true, false, not, cond, ◌&&◌, ◌||◌, List, [], ◌∷◌, ℕ, eqb}
use Rattle.std.proofs.Common.{sym, ap, ◌∙◌, ⊎_elim, eqb-true}
use Rattle.std.proofs.Math.Bool.{and-false}
use Rattle.theory.proofs.Laws.Tests.{test}
use Rattle.line_readers.specs.Order.{in_order}
use Rattle.line_readers.specs.Column.{located}
use Rattle.frames.specs.Frame.{bytes_of}
use Rattle.kinds.specs.declared.Stage.TheVariants.{Rows, Ended}
use Rattle.kinds.specs.Kinds.{HEADER, PERIODIC, TRIGGER, END, kind, sized, may_stand}
use Rattle.sheet_tests.specs.Judge.{line_tests, judge_line}
use Rattle.line_by_line.specs.Tests.{how_many, known, in_place, passes, order, bad_field}
use Rattle.line_by_line.proofs.Laws.Order.{judged}
use Rattle.line_by_line.proofs.Laws.Said.{stage_after, said}

-- a kind that may stand after the header
abbrev row_or_end : ℕ → Bool
row_or_end k = eqb k PERIODIC || (eqb k TRIGGER || eqb k END)

-- the header is none of them
header_is_none : (k : ℕ) → k ≡ HEADER → row_or_end k ≡ false
header_is_none k e = rw e refl

-- what fails for its last part fails, whatever stands before it
and_fails : (a b c : Bool) → c ≡ false → (b && false) ≡ (a && (b && c))
and_fails true true c e = sym e
and_fails true false c e = refl
and_fails false true c e = refl
and_fails false false c e = refl

-- two tests in the other order
and_turned : (a b : Bool) → (a && b) ≡ (b && (a && true))
and_turned true true = refl
and_turned true false = refl
and_turned false true = refl
and_turned false false = refl

-- KIND, where z says that the frame has its size: on the first line,
kind_first : (k : ℕ) (z : Bool) → (z && eqb k HEADER) ≡ (known k && (z && eqb k HEADER))
kind_first k z =
    ⊎_elim
    (λ (h : eqb k HEADER ≡ true). rw h refl)
    (λ (h : eqb k HEADER ≡ false). ap (λ (b : Bool). z && b) h ∙ and_fails (known k) z (eqb k HEADER) h)
    (test (eqb k HEADER))

-- and after it, where `none_yet` says that no frame before it is the end
kind_after : (k : ℕ) (z none_yet : Bool) → (z && may_stand (cond none_yet Rows Ended) k) ≡ (known k && (z && (not (eqb k HEADER) && none_yet)))
unfolding may_stand
kind_after k z true =
    ⊎_elim
    (λ (h : eqb k HEADER ≡ true). rw (h, header_is_none k (eqb-true k HEADER h)) refl)
    (λ (h : eqb k HEADER ≡ false). rw h (and_turned z (row_or_end k)))
    (test (eqb k HEADER))
kind_after k z false = and_fails (known k) z (not (eqb k HEADER) && false) (and-false (not (eqb k HEADER)))

-- so after any frames
kind_same : (fs : List (List ℕ)) (k : ℕ) (z : Bool) → (z && may_stand (stage_after fs) k) ≡ (known k && (z && in_place fs k))
unfolding may_stand
kind_same [] k z = kind_first k z
kind_same (f ∷ fs) k z = kind_after k z (eqb (how_many END (f ∷ fs)) 0)

-- THE LAW: with what was read of these frames, the judge of line l is its tests in their order, with the column of the first that fails
pub judge_same : (fs : List (List ℕ)) (l : List ℕ) (place : ℕ) → judge_line place (said fs).seen l ≡ located l (bad_field fs l) (judged fs l order place)
unfolding judge_line in_order line_tests passes
judge_same fs l place = rw (kind_same fs (kind (bytes_of l)) (sized (bytes_of l))) refl
