-- Laws of one row. Of all laws these alone look inside a row.
-- Assumes nothing.
use Rattle.std.specs.Prelude.{◌≡◌, Bool, true, false, ◌&&◌, ◌||◌, ℕ, zero, suc, ◌+◌, ◌≤◌, ◌<◌, eqb, ltb, get_or, set, replicate, take}
use Rattle.std.specs.List.{list_any}
use Rattle.std.proofs.Math.Path.{refl}
use Rattle.std.proofs.Common.{sym, ap, ap₂, ◌∙◌, add-one, arith, length-set, get_or-set_same, get_or-set_other, lt-ltb, eq-eqb, ne_eqb}
use Rattle.std.proofs.Math.Logic.{by_cases}
use Rattle.std.proofs.Math.Bool.{and-true, and-false, or-true, or_comm}
use Rattle.std.proofs.lemmas.Bool.{false≢true}
use Rattle.std.proofs.Math.Decide.{ℕ_discrete}
use Rattle.std.proofs.lemmas.List.{length-replicate, get_or-replicate}
use Rattle.std.proofs.lemmas.List.Folds.{list_any_more}
use Rattle.std.proofs.Math.Seq.{take-length}
use Rattle.theory.specs.Numbers.{EVENTS}
use Rattle.theory.specs.Below.{any_below}
use Rattle.theory.proofs.Laws.Below.{any_intro}
use Rattle.theory.proofs.Laws.Tests.{is_false, same_or}
use Rattle.reach_row.specs.Row.{Row, whole, reaches, RowIs}
use Rattle.reach_row.specs.Laws.Changes.{past_event, not_yet, one_more, all_made}

-- a row holds what is the same among the events
pub row_same : {f : ℕ → Bool} {row : Row} (g : ℕ → Bool) → ((b : ℕ) → b < EVENTS → f b ≡ g b) → RowIs f row → RowIs g row
row_same g e h = record { size = h.size; says = λ b l. h.says b l ∙ e b l }

-- an event's truth value is read at its number
pub row_at : (row : Row) (b : ℕ) → b < EVENTS → reaches row b ≡ get_or row b false
unfolding reaches
row_at row b l = rw (lt-ltb b EVENTS l) refl

pub empty_row : RowIs (λ _. false) (replicate EVENTS false)
empty_row = record { size = length-replicate EVENTS false; says = λ b l. row_at (replicate EVENTS false) b l ∙ get_or-replicate EVENTS b false false l }

-- the truth value of b stored, so that g is added at b
row_set : (f g : ℕ → Bool) (row : Row) (b : ℕ) (v : Bool) → b < EVENTS → v ≡ (f b || g b) → RowIs f row → RowIs (λ x. f x || (eqb b x && g x)) (set row b v)
row_set f g row b v l e h =
    record {
      size = length-set row b v ∙ h.size;
      says = λ x m.
          row_at (set row b v) x m
          ∙ by_cases (ℕ_discrete x b)
          (λ (q : x ≡ b). rw (q, get_or-set_same row b v false (omega (arith, h.size)), eq-eqb b b refl) e)
          (λ (n : ¬ (x ≡ b)). get_or-set_other row b x v false n ∙ sym (row_at row x m) ∙ h.says x m ∙ same_or (f x) (eqb b x && g x) (rw (ne_eqb b x (λ q. n (sym q))) refl));
    }

-- with event b added, whose truth value is at i, where `on`
module _ (f : ℕ → Bool) (row : Row) (b : ℕ) (on : Bool) (i : ℕ) (same : i ≡ b) (h : RowIs f row) where
  abbrev more : ℕ → Bool
  more x = f x || (on && eqb b x)

  pub with_off : on ≡ false → RowIs more row
  with_off e = row_same more (λ x _. same_or (f x) (on && eqb b x) (rw e refl)) h

  pub with_past : EVENTS ≤ i → RowIs more row
  with_past m = row_same more (λ x l. same_or (f x) (on && eqb b x) (rw (past_event b x l (omega arith), and-false) refl)) h

  pub with_on : on ≡ true → i < EVENTS → RowIs more (set row i true)
  with_on e l =
      rw same
      (row_same more
      (λ x _. ap (λ (t : Bool). f x || t) (rw (e, and-true) refl))
      (row_set f (λ _. true) row b true (omega arith) (sym (or-true (f b))) h))

-- two rows joined: the events of g added that are below b
module _ (f g : ℕ → Bool) where
  abbrev some : ℕ → ℕ → Bool
  some b x = f x || (ltb x b && g x)

  pub joined_none : (row : Row) → RowIs f row → RowIs (some 0) row
  joined_none row h = row_same (some 0) (λ x _. not_yet (f x) (g x) x) h

  pub joined_next : (row y : Row) (b : ℕ) → b < EVENTS → RowIs g y → RowIs (some b) row → RowIs (some (b + 1)) (set row b (get_or row b false || get_or y b false))
  joined_next row y b l k h =
      row_same (some (b + 1)) (λ x _. one_more (f x) (g x) x b)
      (row_set (some b) g row b (get_or row b false || get_or y b false) l (ap₂ ◌||◌ (sym (row_at row b l) ∙ h.says b l) (sym (row_at y b l) ∙ k.says b l)) h)

  pub joined_end : (row : Row) (b : ℕ) → EVENTS ≤ b → RowIs (some b) row → RowIs (λ x. f x || g x) row
  joined_end row b m h = row_same (λ x. f x || g x) (λ x l. all_made (f x) (g x) x b l m) h

-- some event of the row: among none yet, among one more, and among all
module _ (row : Row) where
  pub some_none : false ≡ any_below 0 (reaches row)
  unfolding any_below
  some_none = refl

  pub some_next : (b : ℕ) (any : Bool) → b < EVENTS → any ≡ any_below b (reaches row) → (any || get_or row b false) ≡ any_below (b + 1) (reaches row)
  unfolding any_below
  some_next b any l e = rw (add-one, ← row_at row b l, e) (or_comm (any_below b (reaches row)) (reaches row b))

  pub some_end : (b : ℕ) (any : Bool) → b ≤ EVENTS → EVENTS ≤ b → any ≡ any_below b (reaches row) → any ≡ any_below EVENTS (reaches row)
  some_end b any l m h = let e : b ≡ EVENTS = omega arith in rw e at h

  -- its first n truth values hold a true one where an event below n is reached, and so do all
  some_taken : (test : Bool → Bool) → ((t : Bool) → test t ≡ t) → whole row → (n : ℕ) → n ≤ EVENTS → list_any test (take n row) ≡ any_below n (reaches row)
  unfolding any_below
  some_taken test e w zero l = refl
  some_taken test e w (suc n) l =
      let h = list_any_more test row n false (omega (arith, w)) in
      let m : n < EVENTS = omega arith in
      (rw add-one at h) ∙ ap₂ ◌||◌ (some_taken test e w n (omega arith)) (e (get_or row n false) ∙ sym (row_at row n m)) ∙ or_comm (any_below n (reaches row)) (reaches row n)

  pub some_truth : (test : Bool → Bool) → ((t : Bool) → test t ≡ t) → whole row → list_any test row ≡ any_below EVENTS (reaches row)
  some_truth test e w =
      let t = ap (λ (n : ℕ). take n row) (sym w) ∙ take-length row in
      ap (list_any test) (sym t) ∙ some_taken test e w EVENTS (omega arith)

  -- a row without one
  pub none_reached : any_below EVENTS (reaches row) ≡ false → (b : ℕ) → b < EVENTS → reaches row b ≡ false
  none_reached h b l = is_false (reaches row b) (λ t. false≢true (sym h ∙ any_intro EVENTS (reaches row) b l t))
