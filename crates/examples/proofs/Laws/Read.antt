-- The sheet of a day's input: where its lines are read to what is expected and it has no loop, that is what the reading gives.
-- Assumes nothing.
use Rattle.std.specs.Prelude.{◌≡◌, refl, Bool, true, ◌&&◌, List, [], ◌∷◌, ℕ, eqb, length, Ok}
use Rattle.std.proofs.Common.{◌∙◌, eqb-true}
use Rattle.std.proofs.lemmas.Bool.{false≢true}
use Rattle.theory.specs.Sheet.{GoodOrder}
use Rattle.theory.specs.Graph.{NoLoop}
use Rattle.theory.specs.LoopTest.{PAIRS, loop_place}
use Rattle.theory.proofs.Laws.Tests.{and_left, and_right}
use Rattle.theory.proofs.Laws.OneSolution.{good_heads}
use Rattle.theory.proofs.Laws.Loop.{noloop_says}
use Rattle.tables.specs.Layout.{PERIODIC_TABLE, TRIGGER_TABLE, padded}
use Rattle.tables.specs.Lent.{rules, sheet_in}
use Rattle.text.specs.Lines.{lines}
use Rattle.tables.specs.declared.Counts.{Counts}
use Rattle.sheet_acts.specs.Acts.{Progress}
use Rattle.line_readers.specs.Walks.{Going, goes, refused}
use Rattle.reader.specs.Lines.{reads}
use Rattle.reader.specs.Out.{read_outcome, sheet_read, out_by_loop}
use Rattle.reader.specs.Reading.{start, by_lines, sheet_lengths_fit, reading}
use Rattle.day_split.specs.Split.{sheet_part}
use Rattle.day_input.specs.Opening.{sheet_reading}
use Rattle.examples.specs.Day.{text, Day, sheet_of_day}
use Rattle.examples.proofs.Laws.Passes.{same, read_to, read_found}

pub same_is : (k l : List ℕ) → same k l ≡ true → k ≡ l
same_is [] [] h = refl
same_is [] (b ∷ l) h = absurd (false≢true h)
same_is (a ∷ k) [] h = absurd (false≢true h)
same_is (a ∷ k) (b ∷ l) h = let x : a ≡ b = eqb-true a b (and_left (eqb a b) (same k l) h) in let y : k ≡ l = same_is k l (and_right (eqb a b) (same k l) h) in λ i. x i ∷ y i

-- the lines were read to a state with these counts and tables
record ReadTo (x : Going Progress) (r : Counts) (p t : List ℕ) : Type 0 where
  found : Progress
  goes_on : x ≡ goes found
  hands : found.seen.counts ≡ r
  periodics : found.tables.periodics ≡ p
  triggers : found.tables.triggers ≡ t

read_to_lem : (x : Going Progress) (r : Counts) (p t : List ℕ) → read_to x r p t ≡ true → ReadTo x r p t
read_to_lem (goes s) r p t h =
    let a : Bool = eqb s.seen.counts.roles r.roles in
    let b : Bool = eqb s.seen.counts.periodics r.periodics in
    let c : Bool = eqb s.seen.counts.triggers r.triggers in
    let ab = and_left (a && b) c (and_left ((a && b) && c) _ h) in
    let x = eqb-true _ _ (and_left a b ab) in
    let y = eqb-true _ _ (and_right a b ab) in
    let z = eqb-true _ _ (and_right (a && b) c (and_left ((a && b) && c) _ h)) in
    let tables = and_right ((a && b) && c) _ h in
    record {
      found = s;
      goes_on = refl;
      hands = λ i. record { roles = x i; periodics = y i; triggers = z i };
      periodics = same_is s.tables.periodics p (and_left (same s.tables.periodics p) _ tables);
      triggers = same_is s.tables.triggers t (and_right (same s.tables.periodics p) _ tables);
    }
read_to_lem (refused f) r p t h = absurd (false≢true h)

-- a state without a loop is handed out
loopless : (s : Progress) (p t : List ℕ) (r : Counts) (p' t' : List ℕ) → loop_place (sheet_in (rules r p' t')) ≡ PAIRS
    → s.seen.counts ≡ r → s.tables.periodics ≡ p' → s.tables.triggers ≡ t' → out_by_loop (loop_place (sheet_read s)) s p t ≡ read_outcome (Ok r) p' t'
unfolding out_by_loop
loopless s p t r p' t' k h x y =
    let z : loop_place (sheet_read s) ≡ PAIRS = (λ i. loop_place (sheet_in (rules (h i) (x i) (y i)))) ∙ k in
    rw z (λ i. read_outcome (Ok (h i)) (x i) (y i))

-- THE LAW
pub reads_to : (d : Day) → GoodOrder (sheet_of_day d) → NoLoop (sheet_of_day d) → read_found d ≡ true
    → sheet_reading (text d.input) ≡ read_outcome (Ok d.read) (padded PERIODIC_TABLE d.periodics) (padded TRIGGER_TABLE d.triggers)
unfolding read_found reading by_lines
reads_to d good nl h =
    let sheet : List ℕ = sheet_part (text d.input) in
    let fit : Bool = sheet_lengths_fit (length sheet) (length (padded PERIODIC_TABLE [])) (length (padded TRIGGER_TABLE [])) in
    let r = read_to_lem (reads (goes start) (lines sheet)) d.read (padded PERIODIC_TABLE d.periodics) (padded TRIGGER_TABLE d.triggers) (and_right fit _ h) in
    rw (and_left fit _ h, r.goes_on)
    (loopless r.found (padded PERIODIC_TABLE []) (padded TRIGGER_TABLE []) d.read (padded PERIODIC_TABLE d.periodics) (padded TRIGGER_TABLE d.triggers)
    ((noloop_says (sheet_of_day d) (good_heads (sheet_of_day d) good)).1 nl) r.hands r.periodics r.triggers)
