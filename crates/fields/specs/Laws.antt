-- A frame's fields are within their limits when all of their tests pass; where the first begins that is not.
-- Assumes nothing.
use Rattle.std.specs.Prelude.{◌≡◌, Bool, true, false, List, [], ℕ, ◌+◌, ◌*◌, ◌≤◌, ◌<◌, leb, eqb, take}
use Rattle.std.proofs.Math.Path.{refl, ap, subst}
use Rattle.std.proofs.Common.{sym, ◌∙◌, ⊎_elim, arith, take_all}
use Rattle.std.proofs.Math.ListN.{length}
use borrow.Author.Tests.{leb-true, eqb-true, ne_eqb}
use Rattle.theory.specs.Below.{all_below, all, first_failing, FailsFirst}
use Rattle.theory.specs.Sheet.{periodic_tests, periodic_fits, trigger_tests, trigger_fits}
use Rattle.theory.proofs.Laws.Tests.{test}
use Rattle.theory.proofs.Laws.Below.{all_elim}
use Rattle.theory.proofs.Laws.All.{first_failing_lem}
use Rattle.theory.proofs.Laws.FirstBad.{fields_of}
use Rattle.tables.specs.Layout.{byte_at, periodic_at, trigger_from, trigger_at}
use Rattle.frames.specs.Frame.{sum}
use Rattle.periodic_frames.specs.Row.{periodic_row}
use Rattle.trigger_frames.specs.Row.{trigger_row}
use Rattle.kinds.specs.Kinds.{HEADER, PERIODIC, TRIGGER, kind, size_of, sized}
use Rattle.fields.specs.Fields.{header_tests, header_fits, frame_fits, frame_tests, PERIODIC_WIDTHS, bad_byte, FieldColumn}
pub mod Bytes

pub frame_tests_lem : (k roles : ℕ) (f : List ℕ) → frame_fits k roles f ≡ all (frame_tests k roles f)
unfolding frame_fits header_fits periodic_fits trigger_fits
frame_tests_lem k roles f =
    ⊎_elim
    (λ (h : eqb k HEADER ≡ true). rw h refl)
    (λ (h : eqb k HEADER ≡ false).
    ⊎_elim
    (λ (p : eqb k PERIODIC ≡ true). rw (h, p) refl)
    (λ (p : eqb k PERIODIC ≡ false).
    ⊎_elim
    (λ (t : eqb k TRIGGER ≡ true). rw (h, p, t) refl)
    (λ (t : eqb k TRIGGER ≡ false). rw (h, p, t) refl)
    (test (eqb k TRIGGER)))
    (test (eqb k PERIODIC)))
    (test (eqb k HEADER))

-- ---- the first bad field, by the kind

module _ (k roles : ℕ) (f : List ℕ) where
  pub bad_header : k ≡ HEADER → 1 + first_failing (header_tests (byte_at f 1) (byte_at f 2)) ≡ bad_byte k roles f
  unfolding bad_byte
  bad_header e = rw e refl

  pub bad_periodic : k ≡ PERIODIC → 1 + sum (take (first_failing (periodic_tests roles (periodic_at (periodic_row f) 0))) PERIODIC_WIDTHS) ≡ bad_byte k roles f
  unfolding bad_byte
  bad_periodic e = rw e refl

  pub bad_trigger : k ≡ TRIGGER → 1 + first_failing (trigger_tests roles (trigger_at (trigger_row f) 0)) ≡ bad_byte k roles f
  unfolding bad_byte
  bad_trigger e = rw e refl

  pub bad_none : ¬ (k ≡ HEADER) → ¬ (k ≡ PERIODIC) → ¬ (k ≡ TRIGGER) → 1 ≡ bad_byte k roles f
  unfolding bad_byte
  bad_none h p t = rw (ne_eqb k HEADER h, ne_eqb k PERIODIC p, ne_eqb k TRIGGER t) refl

-- past the last field of a periodic frame
pub widths_past : (i : ℕ) → 7 ≤ i → 16 ≡ sum (take i PERIODIC_WIDTHS)
widths_past i h = sym (ap sum (take_all i PERIODIC_WIDTHS h))

-- before it
widths_below : (i : ℕ) → i < 7 → sum (take i PERIODIC_WIDTHS) ≤ 15
unfolding all_below
widths_below i h = leb-true _ _ (all_elim 7 (λ k. leb (sum (take k PERIODIC_WIDTHS)) 15) refl i h)

-- ---- the first bad field of a frame that has the size of its kind: its test is the first that fails, and it begins before the check

module _ (roles : ℕ) (f : List ℕ) where
  abbrev tests : List Bool
  tests = frame_tests (kind f) roles f

  field_fails : frame_fits (kind f) roles f ≡ false → FailsFirst tests (first_failing tests)
  field_fails h = first_failing_lem tests (sym (frame_tests_lem (kind f) roles f) ∙ h)

  pub field_column : frame_fits (kind f) roles f ≡ false → FieldColumn roles f (2 * bad_byte (kind f) roles f + 1)
  unfolding bad_byte
  field_column h = (first_failing tests, field_fails h, refl)

  module _ (below : first_failing tests < length tests) (size : length f ≡ size_of (kind f) (byte_at f 1) (byte_at f 2)) where
    header_within : eqb (kind f) HEADER ≡ true → bad_byte (kind f) roles f + 2 ≤ length f
    unfolding bad_byte size_of
    header_within h =
        let e : kind f ≡ HEADER = eqb-true _ _ h in
        let l : first_failing (frame_tests HEADER roles f) < 2 = subst (λ (k : ℕ). first_failing (frame_tests k roles f) < length (frame_tests k roles f)) e below in
        let z : length f ≡ 4 = size ∙ ap (λ (k : ℕ). size_of k (byte_at f 1) (byte_at f 2)) e in
        subst (λ (k : ℕ). bad_byte k roles f + 2 ≤ length f) (sym e) (omega (arith, l, z))

    periodic_within : eqb (kind f) PERIODIC ≡ true → bad_byte (kind f) roles f + 2 ≤ length f
    unfolding bad_byte size_of
    periodic_within h =
        let e : kind f ≡ PERIODIC = eqb-true _ _ h in
        let l : first_failing (frame_tests PERIODIC roles f) < 7 = subst (λ (k : ℕ). first_failing (frame_tests k roles f) < length (frame_tests k roles f)) e below in
        let z : length f ≡ 18 = size ∙ ap (λ (k : ℕ). size_of k (byte_at f 1) (byte_at f 2)) e in
        subst (λ (k : ℕ). bad_byte k roles f + 2 ≤ length f) (sym e) (omega (arith, widths_below (first_failing (frame_tests PERIODIC roles f)) l, z))

    trigger_within : eqb (kind f) TRIGGER ≡ true → bad_byte (kind f) roles f + 2 ≤ length f
    unfolding bad_byte size_of trigger_from trigger_row
    trigger_within h =
        let e : kind f ≡ TRIGGER = eqb-true _ _ h in
        let l : first_failing (frame_tests TRIGGER roles f) < length (frame_tests TRIGGER roles f) = subst (λ (k : ℕ). first_failing (frame_tests k roles f) < length (frame_tests k roles f)) e below in
        let n : length (frame_tests TRIGGER roles f) ≡ 5 + byte_at f 1 + byte_at f 2 = fields_of roles (trigger_at (trigger_row f) 0) in
        let z : length f ≡ 7 + byte_at f 1 + byte_at f 2 = size ∙ ap (λ (k : ℕ). size_of k (byte_at f 1) (byte_at f 2)) e in
        subst (λ (k : ℕ). bad_byte k roles f + 2 ≤ length f) (sym e) (omega (arith, l, n, z))

  pub bad_within : frame_fits (kind f) roles f ≡ false → sized f ≡ true → bad_byte (kind f) roles f + 2 ≤ length f
  bad_within h z =
      let x = field_fails h in
      let size : length f ≡ size_of (kind f) (byte_at f 1) (byte_at f 2) = eqb-true _ _ z in
      ⊎_elim
      (λ (a : eqb (kind f) HEADER ≡ true). header_within x.below size a)
      (λ (a : eqb (kind f) HEADER ≡ false).
      ⊎_elim
      (λ (b : eqb (kind f) PERIODIC ≡ true). periodic_within x.below size b)
      (λ (b : eqb (kind f) PERIODIC ≡ false).
      ⊎_elim
      (λ (c : eqb (kind f) TRIGGER ≡ true). trigger_within x.below size c)
      (λ (c : eqb (kind f) TRIGGER ≡ false).
      let none : tests ≡ [] = rw (a, b, c) refl in
      let l : 0 < 0 = subst (λ (ts : List Bool). first_failing ts < length ts) none x.below in
      absurd (omega arith))
      (test (eqb (kind f) TRIGGER)))
      (test (eqb (kind f) PERIODIC)))
      (test (eqb (kind f) HEADER))
