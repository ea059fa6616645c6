-- A line that passed adds its frame to what was read so far: the reader then has what one frame more says.
-- Assumes nothing.
use Rattle.std.specs.Prelude.{◌≡◌, refl, Bool, false, not, cond, ◌&&◌, ◌||◌, eqb, length}
use Rattle.std.proofs.Common.{sym, ap, ◌∙◌, ⊎_elim, arith, length-append, eqb-true, eq-eqb, ne_eqb}
use Rattle.std.proofs.Math.Bool.{true}
use mathlib.Core.List.{List, [], ◌∷◌, ◌++◌}
use Prim.Native.Nat.{ℕ, ◌+◌, ◌*◌, ◌≤◌}
use Rattle.std.proofs.lemmas.Bool.{not-true}
use Rattle.theory.proofs.Laws.Tests.{and_left, and_right, or_cases, not_both}
use Rattle.answers.specs.declared.Name.TheVariants.{Frame, Check, Kind, TooMany, Field, Count}
use Rattle.tables.specs.Layout.{PERIODIC_TABLE, TRIGGER_TABLE, padded, byte_at}
use Rattle.frames.specs.Frame.{bytes_of}
use Rattle.periodic_frames.specs.Row.{periodic_row}
use Rattle.periodic_frames.specs.Laws.{length_periodic}
use Rattle.trigger_frames.specs.Row.{trigger_row}
use Rattle.trigger_frames.specs.Laws.{length_trigger}
use Rattle.kinds.specs.declared.Stage.{Stage}
use Rattle.kinds.specs.declared.Stage.TheVariants.{Rows, Ended}
use Rattle.kinds.specs.Kinds.{HEADER, PERIODIC, TRIGGER, END, kind, sized}
use Rattle.row_counts.specs.Counts.{room_for}
use Rattle.row_counts.specs.Laws.{room_periodics, room_triggers}
use Rattle.sheet_tests.specs.declared.Seen.{Seen}
use Rattle.sheet_acts.specs.Acts.{seen_after, table_after, progress, after}
use Rattle.line_by_line.specs.Tests.{how_many, known, in_place, passes, order, all_pass}
use Rattle.line_by_line.specs.ComesBack.{rows_of, periodic_table, trigger_table}
use Rattle.line_by_line.proofs.Laws.Frames.{count_more, rows_more, rows_length, table_after_lem}
use Rattle.line_by_line.proofs.Laws.Said.{said}

-- ---- the numbers

-- after the header
seen_first : (f : List ℕ) → kind f ≡ HEADER → seen_after (kind f) (byte_at f 2) (said []).seen ≡ (said (f ∷ [])).seen
unfolding seen_after
seen_first f e = rw e refl

-- after frames of which none is the end
module _ (g : List ℕ) (gs : List (List ℕ)) (f : List ℕ) (no_end : how_many END (g ∷ gs) ≡ 0) where
  -- the frames before it, and with it
  abbrev fs : List (List ℕ)
  fs = g ∷ gs

  abbrev more : List (List ℕ)
  more = fs ++ f ∷ []

  -- a line more
  one_more : length fs + 1 ≡ length more
  one_more = sym (length-append fs (f ∷ []))

  -- the frames of kind k, where this one is of it, and where it is not
  counted : (k : ℕ) → kind f ≡ k → how_many k fs + 1 ≡ how_many k more
  counted k e = sym (count_more k fs f ∙ ap (λ (b : Bool). cond b (how_many k fs + 1) (how_many k fs)) (eq-eqb (kind f) k e))

  kept : (k : ℕ) → ¬ (kind f ≡ k) → how_many k fs ≡ how_many k more
  kept k e = sym (count_more k fs f ∙ ap (λ (b : Bool). cond b (how_many k fs + 1) (how_many k fs)) (ne_eqb (kind f) k e))

  -- where the reader stands then
  abbrev stands : ℕ → Stage
  stands n = cond (eqb n 0) Rows Ended

  -- any frame but the end leaves it where it stands, and the end ends it
  goes_on : ¬ (kind f ≡ END) → Rows ≡ stands (how_many END more)
  goes_on e = ap stands (sym no_end ∙ kept END e)

  ends : kind f ≡ END → Ended ≡ stands (how_many END more)
  ends e = ap stands (sym (ap (λ (n : ℕ). n + 1) no_end) ∙ counted END e)

  -- what was read of the frames so far
  abbrev sofar : Seen
  sofar = (said fs).seen

  -- the frame adds to it what it says
  abbrev Adds : Type 0
  Adds = seen_after (kind f) (byte_at f 2) sofar ≡ (said more).seen

  -- by its kind
  by_kind : (k : ℕ) → kind f ≡ k → seen_after k (byte_at f 2) sofar ≡ (said more).seen → Adds
  by_kind k e h = ap (λ (x : ℕ). seen_after x (byte_at f 2) sofar) e ∙ h

  seen_periodic : kind f ≡ PERIODIC → Adds
  unfolding seen_after
  seen_periodic e =
      by_kind PERIODIC e
      (λ i.
      record {
        line = one_more i;
        stage = goes_on (λ (x : kind f ≡ END). omega arith) i;
        counts =
            record {
              roles = sofar.counts.roles;
              periodics = counted PERIODIC e i;
              triggers = kept TRIGGER (λ (x : kind f ≡ TRIGGER). omega arith) i;
            };
      })

  seen_trigger : kind f ≡ TRIGGER → Adds
  unfolding seen_after
  seen_trigger e =
      by_kind TRIGGER e
      (λ i.
      record {
        line = one_more i;
        stage = goes_on (λ (x : kind f ≡ END). omega arith) i;
        counts =
            record {
              roles = sofar.counts.roles;
              periodics = kept PERIODIC (λ (x : kind f ≡ PERIODIC). omega arith) i;
              triggers = counted TRIGGER e i;
            };
      })

  seen_end : kind f ≡ END → Adds
  unfolding seen_after
  seen_end e =
      by_kind END e
      (λ i.
      record {
        line = one_more i;
        stage = ends e i;
        counts =
            record {
              roles = sofar.counts.roles;
              periodics = kept PERIODIC (λ (x : kind f ≡ PERIODIC). omega arith) i;
              triggers = kept TRIGGER (λ (x : kind f ≡ TRIGGER). omega arith) i;
            };
      })

-- of a kind that there is, in its place
seen_more : (fs : List (List ℕ)) (f : List ℕ) → known (kind f) ≡ true → in_place fs (kind f) ≡ true → seen_after (kind f) (byte_at f 2) (said fs).seen ≡ (said (fs ++ f ∷ [])).seen
seen_more [] f n p = seen_first f (eqb-true (kind f) HEADER p)
seen_more (g ∷ gs) f n p =
    let k : ℕ = kind f in
    let h : eqb k HEADER ≡ false = not-true (eqb k HEADER) (and_left (not (eqb k HEADER)) (eqb (how_many END (g ∷ gs)) 0) p) in
    let z : how_many END (g ∷ gs) ≡ 0 = eqb-true (how_many END (g ∷ gs)) 0 (and_right (not (eqb k HEADER)) (eqb (how_many END (g ∷ gs)) 0) p) in
    ⊎_elim
    (λ (a : eqb k HEADER ≡ true). not_both a h)
    (λ (a : (eqb k PERIODIC || (eqb k TRIGGER || eqb k END)) ≡ true).
    ⊎_elim
    (λ (b : eqb k PERIODIC ≡ true). seen_periodic g gs f z (eqb-true k PERIODIC b))
    (λ (b : (eqb k TRIGGER || eqb k END) ≡ true).
    ⊎_elim
    (λ (c : eqb k TRIGGER ≡ true). seen_trigger g gs f z (eqb-true k TRIGGER c))
    (λ (c : eqb k END ≡ true). seen_end g gs f z (eqb-true k END c))
    (or_cases (eqb k TRIGGER) (eqb k END) b))
    (or_cases (eqb k PERIODIC) (eqb k TRIGGER || eqb k END) a))
    (or_cases (eqb k HEADER) (eqb k PERIODIC || (eqb k TRIGGER || eqb k END)) n)

-- ---- the tables

module _ (fs : List (List ℕ)) (f : List ℕ) (room : room_for (kind f) (how_many PERIODIC fs) (how_many TRIGGER fs) ≡ true) where
  -- the rows of either kind so far
  abbrev n : ℕ
  n = how_many PERIODIC fs

  abbrev m : ℕ
  m = how_many TRIGGER fs

  -- a table that holds the rows of one kind holds the row of a frame of that kind more, where there is room for it
  table_more : (w width size : ℕ) (row : List ℕ → List ℕ) → ((g : List ℕ) → length (row g) ≡ width) → (kind f ≡ w → length (rows_of w row fs) + width ≤ size)
      → table_after (kind f) w (how_many w fs) (row f) (padded size (rows_of w row fs)) ≡ padded size (rows_of w row (fs ++ f ∷ []))
  table_more w width size row wide fits =
      table_after_lem size (rows_of w row fs) (row f) (kind f) w (how_many w fs)
      (rows_length w row width wide fs ∙ ap (λ (x : ℕ). x * how_many w fs) (sym (wide f)))
      (λ (e : kind f ≡ w). omega (arith, wide f, fits e))
      ∙ ap (padded size) (sym (rows_more w row fs f))

  -- so do the periodic table and the trigger table
  periodic_more_lem : table_after (kind f) PERIODIC n (periodic_row f) (periodic_table fs) ≡ periodic_table (fs ++ f ∷ [])
  periodic_more_lem =
      table_more PERIODIC 16 PERIODIC_TABLE periodic_row length_periodic (λ (e : kind f ≡ PERIODIC).
      omega (arith, rows_length PERIODIC periodic_row 16 length_periodic fs, room_periodics (kind f) n m room e))

  trigger_more_lem : table_after (kind f) TRIGGER m (trigger_row f) (trigger_table fs) ≡ trigger_table (fs ++ f ∷ [])
  trigger_more_lem =
      table_more TRIGGER 13 TRIGGER_TABLE trigger_row length_trigger (λ (e : kind f ≡ TRIGGER).
      omega (arith, rows_length TRIGGER trigger_row 13 length_trigger fs, room_triggers (kind f) n m room e))

-- ---- both

module _ (fs : List (List ℕ)) (l : List ℕ) (h : all_pass order fs l ≡ true) where
  -- it passed KIND and TOO MANY
  from_kind : all_pass (Kind ∷ TooMany ∷ Field ∷ Count ∷ []) fs l ≡ true
  from_kind = and_right (passes Check fs l) _ (and_right (passes Frame fs l) _ h)

  has_kind : passes Kind fs l ≡ true
  has_kind = and_left (passes Kind fs l) _ from_kind

  has_room : passes TooMany fs l ≡ true
  has_room = and_left (passes TooMany fs l) (all_pass (Field ∷ Count ∷ []) fs l) (and_right (passes Kind fs l) _ from_kind)

  -- THE LAW
  pub taken : after (said fs) (bytes_of l) ≡ said (fs ++ bytes_of l ∷ [])
  unfolding after passes
  taken =
      let f : List ℕ = bytes_of l in
      let k : ℕ = kind f in
      let n : known k ≡ true = and_left (known k) (sized f && in_place fs k) has_kind in
      let p : in_place fs k ≡ true = and_right (sized f) (in_place fs k) (and_right (known k) (sized f && in_place fs k) has_kind) in
      λ i. progress (seen_more fs f n p i) (periodic_more_lem fs f has_room i) (trigger_more_lem fs f has_room i)
