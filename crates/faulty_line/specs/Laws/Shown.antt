-- The part of a refusal is the line of its place, of the lines of both texts in order; and the empty part at the tape's end where there is no such line.
-- Assumes nothing.
use Rattle.std.specs.Prelude.{◌≡◌, true, false, List, [], ℕ, zero, suc, ◌+◌, ◌-◌, ◌≤◌, ◌<◌, length, get_or, Ok, Result}
use Rattle.std.proofs.Common.{sym, ap, ◌∙◌, arith, length-append, get_or-append-add}
use Rattle.std.proofs.Math.ListN.{get_or-append}
use Rattle.faulty_line.specs.declared.Span.{Span}
use Rattle.answers.specs.declared.Refusal.{Refusal}
use Rattle.text.specs.Lines.{Lines, none, endless, line, lines, all_lines}
use Rattle.faulty_line.specs.declared.Part.{Part}
use Rattle.faulty_line.specs.Part.{has_line, spot_of, tapes_end, in_tape, in_sheet, faulty_part, shown, both_lines, start_of, part_at}
use Rattle.faulty_line.specs.Laws.{Sought, found, passed, line_sought, at_place}

-- where a line begins and ends
line_at : (from k : ℕ) (ls : Lines) → k < length (all_lines ls) → spot_of from k ls ≡ Ok (record { from = from + start_of (all_lines ls) k; to = from + start_of (all_lines ls) k + length (get_or (all_lines ls) k []) })
line_at from k none h = absurd (omega arith)
line_at from zero (endless l) h = let e : from ≡ from + 0 = omega arith in ap (λ (x : ℕ). Ok (record { from = x; to = x + length l })) e
line_at from (suc k) (endless l) h = absurd (omega arith)
line_at from zero (line l ls) h = let e : from ≡ from + 0 = omega arith in ap (λ (x : ℕ). Ok (record { from = x; to = x + length l })) e
line_at from (suc k) (line l ls) h =
    let e : from + length l + 1 + start_of (all_lines ls) k ≡ from + (length l + 1 + start_of (all_lines ls) k) = omega arith in
    line_at (from + length l + 1) k ls (omega arith) ∙ ap (λ (x : ℕ). Ok (record { from = x; to = x + length (get_or (all_lines ls) k []) })) e

-- from the first byte on
line_from_0 : (k : ℕ) (ls : Lines) → k < length (all_lines ls) → spot_of 0 k ls ≡ Ok (record { from = start_of (all_lines ls) k; to = start_of (all_lines ls) k + length (get_or (all_lines ls) k []) })
line_from_0 k ls h =
    let e : 0 + start_of (all_lines ls) k ≡ start_of (all_lines ls) k = omega arith in
    line_at 0 k ls h ∙ ap (λ (x : ℕ). Ok (record { from = x; to = x + length (get_or (all_lines ls) k []) })) e

module _ (sheet tape : List ℕ) where
  abbrev first : List (List ℕ)
  first = all_lines (lines sheet)

  abbrev later : List (List ℕ)
  later = all_lines (lines tape)

  -- how many there are
  both_size : length (both_lines sheet tape) ≡ length first + length later
  both_size = length-append first later

  -- ---- a line that is there

  -- in the tape, with m lines of it before it
  in_tape_lem : (m : ℕ) → m < length later → shown (in_tape tape (spot_of 0 m (lines tape))) sheet tape ≡ get_or later m []
  in_tape_lem m h = by_sought (line_sought tape m)
    where
      by_sought : {s : Result Span ℕ} → Sought tape (lines tape) m s → shown (in_tape tape s) sheet tape ≡ get_or later m []
      by_sought (found g e k x) = ap (λ (s : Result Span ℕ). shown (in_tape tape s) sheet tape) e ∙ x.bytes
      by_sought (passed n e k) = absurd (omega arith)

  in_both : (n : ℕ) → n < length (both_lines sheet tape) → shown (in_sheet tape (spot_of 0 n (lines sheet))) sheet tape ≡ get_or (both_lines sheet tape) n []
  in_both n h = by_sought (line_sought sheet n)
    where
      by_sought : {s : Result Span ℕ} → Sought sheet (lines sheet) n s → shown (in_sheet tape s) sheet tape ≡ get_or (both_lines sheet tape) n []
      by_sought (found g e k x) = ap (λ (s : Result Span ℕ). shown (in_sheet tape s) sheet tape) e ∙ (x.bytes ∙ sym (get_or-append first later [] n k))
      by_sought (passed m e k) =
          ap (λ (s : Result Span ℕ). shown (in_sheet tape s) sheet tape) e
          ∙ (in_tape_lem m (omega (arith, both_size))
          ∙ (sym (get_or-append-add first later m []) ∙ ap (λ (j : ℕ). get_or (both_lines sheet tape) j []) (sym k)))

  pub shows_line : (r : Refusal) → has_line r.name ≡ true → (n : ℕ) → r.place ≡ suc n → n < length (both_lines sheet tape)
      → shown (faulty_part sheet tape r) sheet tape ≡ get_or (both_lines sheet tape) n []
  shows_line r h n e l =
      let z : ¬ (r.place ≡ 0) = λ q. omega arith in
      let k : r.place - 1 ≡ n = omega arith in
      sym (ap (λ (p : Part). shown p sheet tape) (at_place sheet tape r h z))
      ∙ (ap (λ (m : ℕ). shown (in_sheet tape (spot_of 0 m (lines sheet))) sheet tape) k ∙ in_both n l)

  -- ---- one that is not

  none_in_tape : (m : ℕ) → length later ≤ m → in_tape tape (spot_of 0 m (lines tape)) ≡ tapes_end tape
  none_in_tape m h = by_sought (line_sought tape m)
    where
      by_sought : {s : Result Span ℕ} → Sought tape (lines tape) m s → in_tape tape s ≡ tapes_end tape
      by_sought (found g e k x) = absurd (omega arith)
      by_sought (passed n e k) = ap (in_tape tape) e

  none_in_both : (n : ℕ) → length (both_lines sheet tape) ≤ n → in_sheet tape (spot_of 0 n (lines sheet)) ≡ tapes_end tape
  none_in_both n h = by_sought (line_sought sheet n)
    where
      by_sought : {s : Result Span ℕ} → Sought sheet (lines sheet) n s → in_sheet tape s ≡ tapes_end tape
      by_sought (found g e k x) = absurd (omega (arith, both_size))
      by_sought (passed m e k) = ap (in_sheet tape) e ∙ none_in_tape m (omega (arith, both_size))

  pub shows_past : (r : Refusal) → has_line r.name ≡ true → length (both_lines sheet tape) < r.place → faulty_part sheet tape r ≡ tapes_end tape
  shows_past r h l =
      let z : ¬ (r.place ≡ 0) = λ q. omega arith in
      sym (at_place sheet tape r h z) ∙ none_in_both (r.place - 1) (omega arith)

  -- ---- where it stands

  pub part_of_sheet : (r : Refusal) → has_line r.name ≡ true → (n : ℕ) → r.place ≡ suc n → n < length first → faulty_part sheet tape r ≡ part_at false first n
  part_of_sheet r h n e l =
      let z : ¬ (r.place ≡ 0) = λ q. omega arith in
      let k : r.place - 1 ≡ n = omega arith in
      sym (at_place sheet tape r h z)
      ∙ (ap (λ (m : ℕ). in_sheet tape (spot_of 0 m (lines sheet))) k ∙ ap (in_sheet tape) (line_from_0 n (lines sheet) l))

  pub part_of_tape : (r : Refusal) → has_line r.name ≡ true → (m : ℕ) → r.place ≡ suc (length first + m) → m < length later → faulty_part sheet tape r ≡ part_at true later m
  part_of_tape r h m e l =
      let z : ¬ (r.place ≡ 0) = λ q. omega arith in
      let k : r.place - 1 ≡ length first + m = omega arith in
      sym (at_place sheet tape r h z) ∙ (ap (λ (j : ℕ). in_sheet tape (spot_of 0 j (lines sheet))) k ∙ by_sought (line_sought sheet (length first + m)))
    where
      by_sought : {s : Result Span ℕ} → Sought sheet (lines sheet) (length first + m) s → in_sheet tape s ≡ part_at true later m
      by_sought (found g e k x) = absurd (omega arith)
      by_sought (passed j e k) =
          let q : j ≡ m = omega arith in
          ap (in_sheet tape) e ∙ (ap (λ (i : ℕ). in_tape tape (spot_of 0 i (lines tape))) q ∙ ap (in_tape tape) (line_from_0 m (lines tape) l))
