-- Writing what was read: of lines that read whole, the lines in table order are those that are written of the tables that they were read into. One line is the header and one the end, for KIND lets no
-- other stand there; every line that passed is a good line of its kind, and its row is in its table.
-- Assumes nothing.
use Rattle.std.specs.Prelude.{◌≡◌, refl, ◌⊎◌, true, false, not, ◌&&◌, ◌||◌, List, [], ◌∷◌, ◌++◌, ℕ, zero, suc, ◌≤◌, ◌<◌, leb, eqb, length, get_or}
use Rattle.std.proofs.Common.{sym, ap, ap₂, ◌∙◌, subst, ⊎_elim, inl, inr, append-nil, append_assoc, arith, eqb-true}
use Rattle.std.proofs.lemmas.Bool.{eqb-false, not-true}
use Rattle.theory.specs.Numbers.{ROLES}
use Rattle.theory.proofs.Laws.Tests.{test, and_left, and_right, or_cases}
use Rattle.frames.specs.Frame.{bytes_of}
use Rattle.tables.specs.Layout.{PERIODIC_BYTES, TRIGGER_BYTES, PERIODIC_TABLE, TRIGGER_TABLE, byte_at, two}
use Rattle.tables.specs.Lent.{Rules, rules}
use Rattle.periodic_frames.specs.Row.{periodic_row}
use Rattle.periodic_frames.specs.Laws.{length_periodic}
use Rattle.trigger_frames.specs.Row.{trigger_row}
use Rattle.trigger_frames.specs.Laws.{length_trigger}
use Rattle.kinds.specs.Kinds.{HEADER, PERIODIC, TRIGGER, END, kind}
use Rattle.row_counts.specs.Counts.{counts_agree}
use Rattle.fields.specs.Fields.{VERSION, header_fits, frame_fits}
use Rattle.line_by_line.specs.Tests.{how_many}
use Rattle.line_by_line.specs.ComesBack.{frames_of, periodic_table, trigger_table, counts_of, ReadsWhole}
use Rattle.writer.specs.RowLines.{GoodLine, EndLine}
use Rattle.writer.specs.Outcome.{Writes}
use Rattle.round_trips.specs.Order.{lines_of_kind, in_table_order, PeriodicsFirst}
use Rattle.round_trips.proofs.Laws.LinesOf.{counted, kept, of_this, of_other, count_of, in_table}
use Rattle.round_trips.proofs.Laws.PassesFrom.{PassesFrom, Tested, tested, good_line, from_each}

-- ---- where a line may stand

-- a line after others is no header, and no end stands before it
module _ (first : List ℕ) (others : List (List ℕ)) (l : List ℕ) (t : Tested (first ∷ others) l) where
  abbrev k : ℕ
  k = kind (bytes_of l)

  not_header : ¬ (k ≡ HEADER)
  not_header = eqb-false k HEADER (not-true (eqb k HEADER) (and_left (not (eqb k HEADER)) (eqb (how_many END (first ∷ others)) 0) t.place))

  no_end_yet : how_many END (first ∷ others) ≡ 0
  no_end_yet = eqb-true (how_many END (first ∷ others)) 0 (and_right (not (eqb k HEADER)) (eqb (how_many END (first ∷ others)) 0) t.place)

  -- so it is a periodic row, a trigger or the end
  row_or_end : (k ≡ PERIODIC) ⊎ ((k ≡ TRIGGER) ⊎ (k ≡ END))
  row_or_end =
      ⊎_elim
      (λ (a : eqb k HEADER ≡ true). absurd (not_header (eqb-true k HEADER a)))
      (λ (a : (eqb k PERIODIC || (eqb k TRIGGER || eqb k END)) ≡ true).
      ⊎_elim
      (λ (b : eqb k PERIODIC ≡ true). inl (eqb-true k PERIODIC b))
      (λ (b : (eqb k TRIGGER || eqb k END) ≡ true).
      ⊎_elim
      (λ (c : eqb k TRIGGER ≡ true). inr (inl (eqb-true k TRIGGER c)))
      (λ (c : eqb k END ≡ true). inr (inr (eqb-true k END c)))
      (or_cases (eqb k TRIGGER) (eqb k END) b))
      (or_cases (eqb k PERIODIC) (eqb k TRIGGER || eqb k END) a))
      (or_cases (eqb k HEADER) (eqb k PERIODIC || (eqb k TRIGGER || eqb k END)) t.is_known)

-- after an end nothing stands
after_end_lem : (first : List ℕ) (others ls : List (List ℕ)) → PassesFrom (first ∷ others) ls → 1 ≤ how_many END (first ∷ others) → ls ≡ []
after_end_lem first others [] h e = refl
after_end_lem first others (l ∷ ls) h e = absurd (omega (arith, no_end_yet first others l (tested (first ∷ others) l h.0)))

-- ---- the lines of each kind

-- no header among those after the first
no_header : (first : List ℕ) (others ls : List (List ℕ)) → PassesFrom (first ∷ others) ls → lines_of_kind HEADER ls ≡ []
no_header first others [] h = refl
no_header first others (l ∷ ls) h =
    of_other HEADER l ls (not_header first others l (tested (first ∷ others) l h.0)) ∙ no_header first (others ++ bytes_of l ∷ []) ls h.1

-- each of them is a good line of its kind
good_lines : (k : ℕ) (before ls : List (List ℕ)) → PassesFrom before ls → (i : ℕ) → i < length (lines_of_kind k ls) → GoodLine k (get_or (lines_of_kind k ls) i [])
good_lines k before [] h i b = absurd (omega arith)
good_lines k before (l ∷ ls) h i b =
    ⊎_elim
    (λ (a : eqb (kind (bytes_of l)) k ≡ true).
    let e : kind (bytes_of l) ≡ k = eqb-true (kind (bytes_of l)) k a in
    subst (λ (r : List (List ℕ)). GoodLine k (get_or r i [])) (sym (of_this k l ls e))
    (here e i (subst (λ (r : List (List ℕ)). i < length r) (of_this k l ls e) b) (λ n g. good_lines k (before ++ bytes_of l ∷ []) ls h.1 n g)))
    (λ (a : eqb (kind (bytes_of l)) k ≡ false).
    let e : lines_of_kind k (l ∷ ls) ≡ lines_of_kind k ls = of_other k l ls (eqb-false (kind (bytes_of l)) k a) in
    subst (λ (r : List (List ℕ)). GoodLine k (get_or r i [])) (sym e) (good_lines k (before ++ bytes_of l ∷ []) ls h.1 i (subst (λ (r : List (List ℕ)). i < length r) e b)))
    (test (eqb (kind (bytes_of l)) k))
  where
    here : kind (bytes_of l) ≡ k → (j : ℕ) → j < length (l ∷ lines_of_kind k ls) → ((n : ℕ) → n < length (lines_of_kind k ls) → GoodLine k (get_or (lines_of_kind k ls) n [])) → GoodLine k (get_or (l ∷ lines_of_kind k ls) j [])
    here e zero g later = good_line before l k (tested before l h.0) e
    here e (suc j) g later = later j (omega arith)

-- one end, with the counts of all rows
record OneEnd (before ls : List (List ℕ)) : Type 0 where
  last : List ℕ
  is_last : lines_of_kind END ls ≡ last ∷ []
  says : EndLine (how_many PERIODIC (before ++ frames_of ls)) (how_many TRIGGER (before ++ frames_of ls)) last

one_end : (first : List ℕ) (others ls : List (List ℕ)) → PassesFrom (first ∷ others) ls → 1 ≤ how_many END (first ∷ (others ++ frames_of ls)) → how_many END (first ∷ others) ≡ 0 → OneEnd (first ∷ others) ls
unfolding counts_agree
one_end first others [] h e z = absurd (omega (arith, z, ap (λ (r : List (List ℕ)). how_many END (first ∷ r)) (append-nil others)))
one_end first others (l ∷ ls) h e z =
    ⊎_elim
    (λ (a : eqb (kind (bytes_of l)) END ≡ true). is_this (eqb-true (kind (bytes_of l)) END a))
    (λ (a : eqb (kind (bytes_of l)) END ≡ false). later (eqb-false (kind (bytes_of l)) END a) (λ g y. one_end first (others ++ bytes_of l ∷ []) ls h.1 g y))
    (test (eqb (kind (bytes_of l)) END))
  where
    t : Tested (first ∷ others) l
    t = tested (first ∷ others) l h.0

    more : List (List ℕ)
    more = others ++ bytes_of l ∷ []

    same : others ++ frames_of (l ∷ ls) ≡ (others ++ bytes_of l ∷ []) ++ frames_of ls
    same = sym (append_assoc others (bytes_of l ∷ []) (frames_of ls))

    is_this : kind (bytes_of l) ≡ END → OneEnd (first ∷ others) (l ∷ ls)
    is_this k =
        let n : ls ≡ [] = after_end_lem first (others ++ bytes_of l ∷ []) ls h.1 (omega (arith, counted END (first ∷ others) (bytes_of l) k)) in
        let all : others ++ frames_of (l ∷ ls) ≡ others ++ bytes_of l ∷ [] = ap (λ (r : List (List ℕ)). others ++ frames_of (l ∷ r)) n in
        let ps : how_many PERIODIC (first ∷ (others ++ frames_of (l ∷ ls))) ≡ how_many PERIODIC (first ∷ others) =
        ap (λ (r : List (List ℕ)). how_many PERIODIC (first ∷ r)) all ∙ kept PERIODIC (first ∷ others) (bytes_of l) (λ x. omega arith) in
        let ts : how_many TRIGGER (first ∷ (others ++ frames_of (l ∷ ls))) ≡ how_many TRIGGER (first ∷ others) =
        ap (λ (r : List (List ℕ)). how_many TRIGGER (first ∷ r)) all ∙ kept TRIGGER (first ∷ others) (bytes_of l) (λ x. omega arith) in
        let c : (eqb (byte_at (bytes_of l) 1) (how_many PERIODIC (first ∷ others)) && eqb (two (bytes_of l) 2) (how_many TRIGGER (first ∷ others))) ≡ true = rw k at t.count in
        record {
          last = l;
          is_last = of_this END l ls k ∙ ap (λ (r : List (List ℕ)). l ∷ lines_of_kind END r) n;
          says =
              record {
                good = good_line (first ∷ others) l END t k;
                periodic_count = eqb-true _ _ (and_left (eqb (byte_at (bytes_of l) 1) (how_many PERIODIC (first ∷ others))) (eqb (two (bytes_of l) 2) (how_many TRIGGER (first ∷ others))) c) ∙ sym ps;
                trigger_count = eqb-true _ _ (and_right (eqb (byte_at (bytes_of l) 1) (how_many PERIODIC (first ∷ others))) (eqb (two (bytes_of l) 2) (how_many TRIGGER (first ∷ others))) c) ∙ sym ts;
              };
        }

    later : ¬ (kind (bytes_of l) ≡ END) → (1 ≤ how_many END (first ∷ ((others ++ bytes_of l ∷ []) ++ frames_of ls)) → how_many END (first ∷ (others ++ bytes_of l ∷ [])) ≡ 0 → OneEnd (first ∷ (others ++ bytes_of l ∷ [])) ls)
        → OneEnd (first ∷ others) (l ∷ ls)
    later k rest =
        let o = rest (subst (λ (r : List (List ℕ)). 1 ≤ how_many END (first ∷ r)) same e) (kept END (first ∷ others) (bytes_of l) k ∙ z) in
        record {
          last = o.last;
          is_last = of_other END l ls k ∙ o.is_last;
          says = subst (λ (r : List (List ℕ)). EndLine (how_many PERIODIC (first ∷ r)) (how_many TRIGGER (first ∷ r)) o.last) (sym same) o.says;
        }

-- ---- all of them

-- what was read of these frames, as it is lent to the writer
abbrev pub read : List (List ℕ) → Rules
read fs = rules (counts_of fs) (periodic_table fs) (trigger_table fs)

-- the header's fields
header_fields : (before : List (List ℕ)) (l : List ℕ) → Tested before l → kind (bytes_of l) ≡ HEADER → byte_at (bytes_of l) 1 ≡ VERSION
unfolding frame_fits header_fits
header_fields before l t k =
    let r : ℕ = byte_at (bytes_of l) 2 in
    let h : (eqb (byte_at (bytes_of l) 1) VERSION && (leb 1 r && leb r ROLES)) ≡ true = rw k at t.field in
    eqb-true (byte_at (bytes_of l) 1) VERSION (and_left (eqb (byte_at (bytes_of l) 1) VERSION) (leb 1 r && leb r ROLES) h)

module _ (l : List ℕ) (ls : List (List ℕ)) (h : PassesFrom [] (l ∷ ls)) (some : 1 ≤ how_many END (frames_of (l ∷ ls))) where
  abbrev all : List (List ℕ)
  all = l ∷ ls

  first_tested : Tested [] l
  first_tested = tested [] l h.0

  is_header : kind (bytes_of l) ≡ HEADER
  is_header = eqb-true (kind (bytes_of l)) HEADER first_tested.place

  the_end : OneEnd (bytes_of l ∷ []) ls
  the_end = one_end (bytes_of l) [] ls h.1 some (rw is_header refl)

  of_header : lines_of_kind HEADER all ≡ l ∷ []
  of_header = of_this HEADER l ls is_header ∙ ap (λ (r : List (List ℕ)). l ∷ r) (no_header (bytes_of l) [] ls h.1)

  of_end : lines_of_kind END all ≡ the_end.last ∷ []
  of_end = of_other END l ls (λ a. omega (arith, is_header)) ∙ the_end.is_last

  pub read_writes : Writes (read (frames_of all)) (in_table_order all)
  read_writes =
      record {
        header = l;
        periodics = lines_of_kind PERIODIC all;
        triggers = lines_of_kind TRIGGER all;
        end = the_end.last;
        lines = ap₂ (λ (a b : List (List ℕ)). a ++ (lines_of_kind PERIODIC all ++ (lines_of_kind TRIGGER all ++ b))) of_header of_end;
        is_header = record { good = good_line [] l HEADER first_tested is_header; version = header_fields [] l first_tested is_header; role_count = refl };
        periodic_count = sym (count_of PERIODIC all);
        each_periodic = λ i b.
            let n : i < length (lines_of_kind PERIODIC all) = omega (arith, count_of PERIODIC all) in
            record {
              good = good_lines PERIODIC [] all h i n;
              row = λ k g. sym (in_table PERIODIC periodic_row PERIODIC_BYTES length_periodic PERIODIC_TABLE all i k n g);
            };
        trigger_count = sym (count_of TRIGGER all);
        each_trigger = λ i b.
            let n : i < length (lines_of_kind TRIGGER all) = omega (arith, count_of TRIGGER all) in
            record {
              good = good_lines TRIGGER [] all h i n;
              row = λ k g u. sym (in_table TRIGGER trigger_row TRIGGER_BYTES length_trigger TRIGGER_TABLE all i k n g);
            };
        is_end = the_end.says;
      }

-- THE LAW: lines that read whole are written in table order
pub whole_writes : (ls : List (List ℕ)) (rest : List ℕ) → ReadsWhole ls rest → Writes (read (frames_of ls)) (in_table_order ls)
whole_writes [] rest w = absurd (omega (arith, w.end_there))
whole_writes (l ∷ ls) rest w = read_writes l ls (from_each (l ∷ ls) w.each) w.end_there

-- ---- where the periodic rows stand first

-- a line less in front
first_later : (l : List ℕ) (ls : List (List ℕ)) → PeriodicsFirst (l ∷ ls) → PeriodicsFirst ls
first_later l ls f before after m e k = f (l ∷ before) after m (ap (λ (r : List (List ℕ)). l ∷ r) e) k

in_order : (first : List ℕ) (others ls : List (List ℕ)) → PassesFrom (first ∷ others) ls → PeriodicsFirst ls → lines_of_kind PERIODIC ls ++ (lines_of_kind TRIGGER ls ++ lines_of_kind END ls) ≡ ls
in_order first others [] h f = refl
in_order first others (l ∷ ls) h f =
    let t : Tested (first ∷ others) l = tested (first ∷ others) l h.0 in
    let rest : lines_of_kind PERIODIC ls ++ (lines_of_kind TRIGGER ls ++ lines_of_kind END ls) ≡ ls = in_order first (others ++ bytes_of l ∷ []) ls h.1 (first_later l ls f) in
    ⊎_elim
    (λ (a : kind (bytes_of l) ≡ PERIODIC).
    (λ i. of_this PERIODIC l ls a i ++ (of_other TRIGGER l ls (λ x. omega arith) i ++ of_other END l ls (λ x. omega arith) i))
    ∙ ap (λ (r : List (List ℕ)). l ∷ r) rest)
    (λ (b : (kind (bytes_of l) ≡ TRIGGER) ⊎ (kind (bytes_of l) ≡ END)).
    ⊎_elim
    (λ (a : kind (bytes_of l) ≡ TRIGGER).
    let none : lines_of_kind PERIODIC ls ≡ [] = f [] ls l refl a in
    (λ i. (of_other PERIODIC l ls (λ x. omega arith) ∙ none) i ++ (of_this TRIGGER l ls a i ++ of_other END l ls (λ x. omega arith) i))
    ∙ ap (λ (r : List (List ℕ)). l ∷ r) (ap (λ (r : List (List ℕ)). r ++ (lines_of_kind TRIGGER ls ++ lines_of_kind END ls)) (sym none) ∙ rest))
    (λ (a : kind (bytes_of l) ≡ END).
    let n : ls ≡ [] = after_end_lem first (others ++ bytes_of l ∷ []) ls h.1 (omega (arith, counted END (first ∷ others) (bytes_of l) a)) in
    (λ i. of_other PERIODIC l (n i) (λ x. omega arith) i ++ (of_other TRIGGER l (n i) (λ x. omega arith) i ++ of_this END l (n i) a i))
    ∙ ap (λ (r : List (List ℕ)). l ∷ r) (sym n))
    b)
    (row_or_end first others l t)

-- THE LAW: they are in table order already
pub whole_in_order : (ls : List (List ℕ)) (rest : List ℕ) → ReadsWhole ls rest → PeriodicsFirst ls → in_table_order ls ≡ ls
whole_in_order [] rest w f = absurd (omega (arith, w.end_there))
whole_in_order (l ∷ ls) rest w f =
    let h = from_each (l ∷ ls) w.each in
    let k : kind (bytes_of l) ≡ HEADER = is_header l ls h w.end_there in
    (λ i.
    of_header l ls h w.end_there i
    ++ (of_other PERIODIC l ls (λ x. omega arith) i ++ (of_other TRIGGER l ls (λ x. omega arith) i ++ of_other END l ls (λ x. omega arith) i)))
    ∙ ap (λ (r : List (List ℕ)). l ∷ r) (in_order (bytes_of l) [] ls h.1 (first_later l ls f))
