-- Laws of the lines in order: what it says that they go on to their end, and one turn of a loop over them, with the cursor at the start of a line. What is left of the text from the cursor on is `drop at text`.
-- Assumes nothing.
use Rattle.std.specs.Prelude.{◌≡◌, ℕ, ◌+◌, ◌-◌, ◌≤◌, ◌<◌, length, Some, None, Ok, Err}
use Rattle.std.proofs.Math.Path.{refl, sym}
use Rattle.std.proofs.Common.{ap, ◌∙◌, arith, drop_of_length-le, take_all}
use mathlib.Core.List.{List}
use Rattle.std.proofs.Math.ListN.{take, drop, length-drop}
use Rattle.answers.specs.declared.Name.TheVariants.{Frame}
use Rattle.answers.specs.declared.Refusal.{Refusal}
use Rattle.answers.specs.Answers.{refusal, Verdict, pass}
use Rattle.answers.proofs.Laws.{no_pass}
use Rattle.text.specs.Lines.{Lines, none, endless, line, lines, first_ended, span}
use Rattle.text.specs.Laws.Lines.{line_here, endless_here, first_line, last_line}
use Rattle.line_readers.specs.Column.{in_line}
use Rattle.line_readers.specs.Walks.{Going, goes, refused, by_verdict, Reader, walks}

-- a refusal is not 'goes on'
pub no_goes : {A C : Type 0} (r : Refusal) (z : A) → ◌≡◌ {A = Going A} (refused r) (goes z) → C
no_goes r z e = absurd (let w : ◌≡◌ {A = ℕ} 0 1 = cc in omega arith)

-- one has one refusal
pub same_refusal : {A : Type 0} {a b : Refusal} → ◌≡◌ {A = Going A} (refused a) (refused b) → a ≡ b
same_refusal e = cc

-- what goes on passed
pub verdict_goes : {A : Type 0} (v : Verdict) (made n : A) → by_verdict v made ≡ goes n → (v ≡ pass) × (made ≡ n)
unfolding by_verdict
verdict_goes (Ok tt) made n e = (refl, cc)
verdict_goes (Err r) made n e = no_goes r n e

-- and what is refused was
pub verdict_stops : {A : Type 0} (v : Verdict) (made : A) (r : Refusal) → by_verdict v made ≡ refused r → v ≡ Err r
unfolding by_verdict
verdict_stops (Ok tt) made r e = no_goes r made (sym e)
verdict_stops (Err x) made r e = ap Err (same_refusal e)

-- what comes of lines leaves one verdict and, where that is a pass, one thing that was read
pub walk_one : {A : Type 0} (v w : Verdict) (m n : A) (x : Going A) → by_verdict v m ≡ x → by_verdict w n ≡ x → (v ≡ w) × (v ≡ pass → m ≡ n)
unfolding by_verdict
walk_one (Ok a) (Ok b) m n x e f = (refl, λ _. let g : ◌≡◌ {A = Going _} (goes m) (goes n) = e ∙ sym f in cc)
walk_one (Ok a) (Err r) m n x e f = no_goes r m (f ∙ sym e)
walk_one (Err r) (Ok b) m n x e f = no_goes r n (e ∙ sym f)
walk_one (Err r) (Err s) m n x e f = (ap Err (same_refusal (e ∙ sym f)), λ h. no_pass r h)

module _ {A : Type 0} (R : Reader A) where
  -- after a refusal no line is read
  pub walks_refused : (r : Refusal) (ls : Lines) → walks R (refused r) ls ≡ refused r
  unfolding walks
  walks_refused r none = refl
  walks_refused r (endless l) = refl
  walks_refused r (line l ls) = refl

  -- where all lines go on to their end, the first does, and from there the others
  by_first : (z : A) (x : Going A) (ls : Lines) → walks R x ls ≡ goes z → (n : A) × (x ≡ goes n) × (walks R (goes n) ls ≡ goes z)
  by_first z (goes n) ls h = (n, refl, h)
  by_first z (refused r) ls h = no_goes r z (sym (walks_refused r ls) ∙ h)

  pub walks_first : (s z : A) (l : List ℕ) (ls : Lines) → walks R (goes s) (line l ls) ≡ goes z → (n : A) × (R.takes s l ≡ goes n) × (walks R (goes n) ls ≡ goes z)
  unfolding walks
  walks_first s z l ls h = by_first z (R.takes s l) ls h

  module _ (text : List ℕ) (at : ℕ) where
    -- after the last line
    pub walks_none : (s : A) → length text ≤ at → walks R (goes s) (lines (drop at text)) ≡ R.ends s
    unfolding walks
    walks_none s h = rw (drop_of_length-le text h)

    -- the line from `at` to e, its end
    module _ (e : ℕ) (ends : e ≡ at + span (drop at text)) (s : A) where
      walks_line : e < length text → walks R (goes s) (lines (drop at text)) ≡ walks R (R.takes s (take (e - at) (drop at text))) (lines (drop (e + 1) text))
      unfolding walks
      walks_line h = rw (line_here text at e ends h)

      pub walks_endless : at < length text → e ≡ length text → walks R (goes s) (lines (drop at text)) ≡ refused (in_line (take (e - at) (drop at text)) 0 (refusal Frame (R.read s + 1)))
      unfolding walks
      walks_endless h k =
          let l : drop at text ≡ take (e - at) (drop at text) = sym (take_all (e - at) (drop at text) (omega (arith, length-drop at text))) in
          rw (endless_here text at e ends h k) (ap (λ (x : List ℕ). refused (in_line x 0 (refusal Frame (R.read s + 1)))) l)

      -- one turn of the loop: what is read from here on stays the whole, and is the answer where the line is refused
      module _ (inside : e < length text) (whole : Going A) (from : walks R (goes s) (lines (drop at text)) ≡ whole) where
        pub turn_goes : (n : A) → R.takes s (take (e - at) (drop at text)) ≡ goes n → walks R (goes n) (lines (drop (e + 1) text)) ≡ whole
        turn_goes n g = ap (λ (x : Going A). walks R x (lines (drop (e + 1) text))) (sym g) ∙ (sym (walks_line inside) ∙ from)

        pub turn_stops : (r : Refusal) → R.takes s (take (e - at) (drop at text)) ≡ refused r → refused r ≡ whole
        turn_stops r g =
            sym (walks_refused r (lines (drop (e + 1) text)))
            ∙ (ap (λ (x : Going A). walks R x (lines (drop (e + 1) text))) (sym g) ∙ (sym (walks_line inside) ∙ from))

    -- the same by the line that stands at the cursor, where it has its 0A
    module _ (s : A) (whole : Going A) (from : walks R (goes s) (lines (drop at text)) ≡ whole) where
      module _ (l : List ℕ) (is : Some l ≡ first_ended (lines (drop at text))) where
        walks_first_line : walks R (R.takes s l) (lines (drop (at + (length l + 1)) text)) ≡ whole
        unfolding walks
        walks_first_line =
            let n : at + (length l + 1) ≡ at + length l + 1 = omega arith in
            ap (λ (k : ℕ). walks R (R.takes s l) (lines (drop k text))) n ∙ (sym (rw (first_line text at l is).0) ∙ from)

        pub line_goes : (n : A) → R.takes s l ≡ goes n → walks R (goes n) (lines (drop (at + (length l + 1)) text)) ≡ whole
        line_goes n g = ap (λ (x : Going A). walks R x (lines (drop (at + (length l + 1)) text))) (sym g) ∙ walks_first_line

        pub line_stops : (r : Refusal) → R.takes s l ≡ refused r → refused r ≡ whole
        line_stops r g = sym (walks_refused r (lines (drop (at + (length l + 1)) text))) ∙ line_goes_on r g
          where
            line_goes_on : (x : Refusal) → R.takes s l ≡ refused x → walks R (refused x) (lines (drop (at + (length l + 1)) text)) ≡ whole
            line_goes_on x h = ap (λ (y : Going A). walks R y (lines (drop (at + (length l + 1)) text))) (sym h) ∙ walks_first_line

      -- and where it has none
      pub last_stops : None ≡ first_ended (lines (drop at text)) → at < length text
          → refused (in_line (take (length text - at) (drop at text)) 0 (refusal Frame (R.read s + 1))) ≡ whole
      unfolding walks
      last_stops is h =
          ap (λ (x : List ℕ). refused (in_line x 0 (refusal Frame (R.read s + 1)))) (take_all (length text - at) (drop at text) (omega (arith, length-drop at text)))
          ∙ (sym (rw (last_line text at is h)) ∙ from)
