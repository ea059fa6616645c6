-- Reading what was written: the lines that are written of tables in good order all pass, one after the other, and their frames have the rows of the tables and nothing else.
-- Assumes nothing.
use Rattle.std.specs.Prelude.{◌≡◌, true, length}
use Rattle.std.proofs.Math.Path.{refl, ap, subst}
use Rattle.std.proofs.Common.{sym, ap₂, ◌∙◌}
use Rattle.std.proofs.Math.Logic.{by_cases}
use mathlib.Core.List.{List, [], ◌∷◌, ◌++◌, append-nil, append_assoc}
use Prim.Native.Nat.{ℕ, suc, ◌+◌, ◌-◌, ◌*◌, ◌/◌, ◌%◌, ◌≤◌, ◌<◌}
use Rattle.std.proofs.Math.Decide.{dec_lt}
use native.Mathlib.Omega.{arith}
use Rattle.std.proofs.Math.ListN.{get_or}
use borrow.Author.Tests.{eq-eqb, lt-ltb, le-leb}
use Rattle.theory.specs.Numbers.{PERIODIC_ROWS, TRIGGER_ROWS, BODY_EVENTS, BODY_CONDITIONS}
use Rattle.theory.specs.Sheet.{GoodOrder, periodic_fits, trigger_fits}
use Rattle.theory.specs.Graph.{NoLoop}
use Rattle.theory.specs.Used.{SameTrigger, SameUsed}
use Rattle.theory.proofs.Laws.Used.{fits_used, noloop_used}
use Rattle.theory.proofs.Laws.OneSolution.{good_trigger}
use Rattle.text.specs.Framed.{framed}
use Rattle.frames.specs.Frame.{bytes_of}
use Rattle.tables.specs.declared.Counts.{Counts}
use Rattle.tables.specs.Layout.{PERIODIC_BYTES, TRIGGER_BYTES, PERIODIC_TABLE, TRIGGER_TABLE, byte_at, periodic_at, trigger_from, trigger_at, sheet_of}
use Rattle.tables.specs.Lent.{Rules, rules, sheet_in}
use Rattle.tables.specs.Used.{UsedByte}
use Rattle.tables.proofs.Laws.Used.{periodic_same, trigger_same}
use Rattle.periodic_frames.specs.Row.{periodic_row}
use Rattle.periodic_frames.specs.Laws.{length_periodic}
use Rattle.trigger_frames.specs.Row.{trigger_row}
use Rattle.trigger_frames.specs.Laws.{length_trigger}
use Rattle.kinds.specs.Kinds.{HEADER, PERIODIC, TRIGGER, END, kind}
use Rattle.row_counts.specs.Counts.{room_for, counts_agree}
use Rattle.fields.specs.Fields.{header_fits, frame_fits}
use Rattle.accepted.specs.Laws.Rows as rows
use Rattle.line_by_line.specs.Tests.{how_many, role_count, order, all_pass}
use Rattle.line_by_line.specs.ComesBack.{frames_of, periodic_table, trigger_table, counts_of, sheet_said, ReadsWhole}
use Rattle.writer.specs.RowLines.{HeaderLine, PeriodicLine, TriggerLine, EndLine}
use Rattle.writer.specs.Outcome.{Writes}
use Rattle.writer.proofs.Laws.Rows.{event_past, condition_past}
use Rattle.writer.proofs.Laws.OneLine.{event_count, condition_count}
use Rattle.round_trips.specs.Order.{lines_of_kind, in_table_order, OnlyItsRows}
use Rattle.round_trips.proofs.Laws.LinesOf.{counted, kept, of_this, of_other, of_append, of_all, of_none, count_of, in_table, past_rows, table_length}
use Rattle.round_trips.proofs.Laws.PassesFrom.{PassesFrom, all_tests, passed_at, passes_append, to_each}

-- ---- a row said by a line holds what it may

periodic_said : (table : List ℕ) (i : ℕ) (l : List ℕ) → PeriodicLine table i l → periodic_at (periodic_row (bytes_of l)) 0 ≡ periodic_at table i
periodic_said table i l x =
    rows.periodic_same (periodic_row (bytes_of l)) table 0 i (λ k h. let z : PERIODIC_BYTES * 0 + k ≡ k = omega arith in ap (byte_at (periodic_row (bytes_of l))) z ∙ x.row k h)

module _ (table : List ℕ) (i : ℕ) (l : List ℕ) (x : TriggerLine table i l) where
  abbrev at : ℕ
  at = TRIGGER_BYTES * i

  -- byte k of the row, where the line's row has it at y and the table at z
  byte_said : (y z k : ℕ) → y ≡ k → z ≡ at + k → k < TRIGGER_BYTES → UsedByte (trigger_at table i) k → byte_at table z ≡ byte_at (trigger_row (bytes_of l)) y
  byte_said y z k e f h u = sym (ap (byte_at (trigger_row (bytes_of l))) e ∙ x.row k h u ∙ ap (byte_at table) (sym f))

  trigger_said : (trigger_at table i).event_count ≤ BODY_EVENTS → (trigger_at table i).condition_count ≤ BODY_CONDITIONS → SameTrigger (trigger_at table i) (trigger_at (trigger_row (bytes_of l)) 0)
  unfolding trigger_from
  trigger_said few_events few_conditions =
      let n : ℕ = TRIGGER_BYTES * 0 in
      record {
        event_count = byte_said n at 0 (omega arith) (omega arith) (omega arith) (omega arith);
        condition_count = byte_said (n + 1) (at + 1) 1 (omega arith) (omega arith) (omega arith) (omega arith);
        events = λ j b. byte_said (n + 2 + j) (at + 2 + j) (2 + j) (omega arith) (omega arith) (omega arith) (omega arith);
        conditions = λ j b. byte_said (n + 6 + j) (at + 6 + j) (6 + j) (omega arith) (omega arith) (omega arith) (omega arith);
        head = byte_said (n + 10) (at + 10) 10 (omega arith) (omega arith) (omega arith) (omega arith);
        priority = byte_said (n + 11) (at + 11) 11 (omega arith) (omega arith) (omega arith) (omega arith);
        delay = byte_said (n + 12) (at + 12) 12 (omega arith) (omega arith) (omega arith) (omega arith);
      }

-- ---- line after line

-- the frames before a line: a header with this role count, n periodic rows, m triggers, and no end
record Before (roles : ℕ) (first : List ℕ) (others : List (List ℕ)) (n m : ℕ) : Type 0 where
  roles_are : byte_at first 2 ≡ roles
  periodics_are : how_many PERIODIC (first ∷ others) ≡ n
  triggers_are : how_many TRIGGER (first ∷ others) ≡ m
  no_end : how_many END (first ∷ others) ≡ 0

module _ (roles : ℕ) (first : List ℕ) (others : List (List ℕ)) (n m : ℕ) (b : Before roles first others n m) (f : List ℕ) where
  abbrev more : List (List ℕ)
  more = others ++ f ∷ []

  one_periodic_more : kind f ≡ PERIODIC → Before roles first more (n + 1) m
  one_periodic_more e =
      record {
        roles_are = b.roles_are;
        periodics_are = counted PERIODIC (first ∷ others) f e ∙ ap (λ (x : ℕ). x + 1) b.periodics_are;
        triggers_are = kept TRIGGER (first ∷ others) f (λ x. omega arith) ∙ b.triggers_are;
        no_end = kept END (first ∷ others) f (λ x. omega arith) ∙ b.no_end;
      }

  one_trigger_more : kind f ≡ TRIGGER → Before roles first more n (m + 1)
  one_trigger_more e =
      record {
        roles_are = b.roles_are;
        periodics_are = kept PERIODIC (first ∷ others) f (λ x. omega arith) ∙ b.periodics_are;
        triggers_are = counted TRIGGER (first ∷ others) f e ∙ ap (λ (x : ℕ). x + 1) b.triggers_are;
        no_end = kept END (first ∷ others) f (λ x. omega arith) ∙ b.no_end;
      }

-- a table's rows, as they are said by these lines from row n on
abbrev PeriodicsSaid : List ℕ → ℕ → List (List ℕ) → Type 0
PeriodicsSaid table n ls = (i : ℕ) → i < length ls → PeriodicLine table (n + i) (get_or ls i [])

abbrev TriggersSaid : List ℕ → ℕ → List (List ℕ) → Type 0
TriggersSaid table n ls = (i : ℕ) → i < length ls → TriggerLine table (n + i) (get_or ls i [])

module _ (R : Rules) (good : GoodOrder (sheet_in R)) where
  abbrev roles : ℕ
  roles = R.counts.roles

  abbrev P : ℕ
  P = R.counts.periodics

  abbrev T : ℕ
  T = R.counts.triggers

  abbrev p : List ℕ
  p = R.tables.periodics

  abbrev t : List ℕ
  t = R.tables.triggers

  few_roles : (1 ≤ roles) × (roles ≤ 64)
  unfolding sheet_of
  few_roles = (good.some_role, good.few_roles)

  few_rows_lem : (P ≤ PERIODIC_ROWS) × (T ≤ TRIGGER_ROWS)
  unfolding sheet_of
  few_rows_lem = (good.few_periodics, good.few_triggers)

  periodic_fits_lem : (i : ℕ) → i < P → periodic_fits roles (periodic_at p i) ≡ true
  unfolding sheet_of
  periodic_fits_lem = good.periodics

  trigger_fits_lem : (i : ℕ) → i < T → trigger_fits roles (trigger_at t i) ≡ true
  unfolding sheet_of
  trigger_fits_lem = good.triggers

  few_in_body : (i : ℕ) → i < T → ((trigger_at t i).event_count ≤ BODY_EVENTS) × ((trigger_at t i).condition_count ≤ BODY_CONDITIONS)
  unfolding sheet_of
  few_in_body i l = let w = good_trigger (sheet_in R) good i l in (w.few_events, w.few_conditions)

  -- ---- each line passes

  header_passes : (l : List ℕ) → HeaderLine roles l → all_pass order [] l ≡ true
  unfolding room_for frame_fits header_fits counts_agree
  header_passes l x =
      let k : kind (bytes_of l) ≡ HEADER = x.good.is_kind in
      all_tests [] l
      (record {
        frame = x.good.frame;
        check = x.good.check;
        is_known = rw k refl;
        size = x.good.size;
        place = rw k refl;
        room = rw k refl;
        field = rw (k, x.version, x.role_count, le-leb 1 roles few_roles.0, le-leb roles 64 few_roles.1) refl;
        count = rw k refl;
      })

  module _ (first : List ℕ) (others : List (List ℕ)) (n m : ℕ) (b : Before roles first others n m) (l : List ℕ) where
    periodic_passes : n < P → PeriodicLine p n l → all_pass order (first ∷ others) l ≡ true
    unfolding room_for frame_fits counts_agree
    periodic_passes h x =
        let k : kind (bytes_of l) ≡ PERIODIC = x.good.is_kind in
        all_tests (first ∷ others) l
        (record {
          frame = x.good.frame;
          check = x.good.check;
          is_known = rw k refl;
          size = x.good.size;
          place = rw (k, b.no_end) refl;
          room = rw k (lt-ltb (how_many PERIODIC (first ∷ others)) PERIODIC_ROWS (omega (arith, b.periodics_are, few_rows_lem.0)));
          field = rw (k, b.roles_are, periodic_said p n l x) (periodic_fits_lem n h);
          count = rw k refl;
        })

    trigger_passes : m < T → TriggerLine t m l → all_pass order (first ∷ others) l ≡ true
    unfolding room_for frame_fits counts_agree
    trigger_passes h x =
        let k : kind (bytes_of l) ≡ TRIGGER = x.good.is_kind in
        let few = few_in_body m h in
        all_tests (first ∷ others) l
        (record {
          frame = x.good.frame;
          check = x.good.check;
          is_known = rw k refl;
          size = x.good.size;
          place = rw (k, b.no_end) refl;
          room = rw k (lt-ltb (how_many TRIGGER (first ∷ others)) TRIGGER_ROWS (omega (arith, b.triggers_are, few_rows_lem.1)));
          field = rw (k, b.roles_are) (sym (fits_used (trigger_at t m) (trigger_at (trigger_row (bytes_of l)) 0) (trigger_said t m l x few.0 few.1) roles) ∙ trigger_fits_lem m h);
          count = rw k refl;
        })

    end_passes : EndLine n m l → all_pass order (first ∷ others) l ≡ true
    unfolding room_for frame_fits counts_agree
    end_passes x =
        let k : kind (bytes_of l) ≡ END = x.good.is_kind in
        all_tests (first ∷ others) l
        (record {
          frame = x.good.frame;
          check = x.good.check;
          is_known = rw k refl;
          size = x.good.size;
          place = rw (k, b.no_end) refl;
          room = rw k refl;
          field = rw k refl;
          count = rw (k, x.periodic_count, x.trigger_count, b.periodics_are, b.triggers_are, eq-eqb n n refl, eq-eqb m m refl) refl;
        })

  -- ---- all of them

  periodics_pass : (ls : List (List ℕ)) (first : List ℕ) (others : List (List ℕ)) (n m : ℕ) → Before roles first others n m → PeriodicsSaid p n ls → n + length ls ≤ P
      → PassesFrom (first ∷ others) ls × Before roles first (others ++ frames_of ls) (n + length ls) m
  periodics_pass [] first others n m b said h =
      (tt, subst (λ (x : ℕ). Before roles first (others ++ []) x m) (let z : n ≡ n + 0 = omega arith in z) (subst (λ (x : List (List ℕ)). Before roles first x n m) (sym (append-nil others)) b))
  periodics_pass (l ∷ ls) first others n m b said h =
      let z : n + 0 ≡ n = omega arith in
      let x : PeriodicLine p n l = subst (λ (i : ℕ). PeriodicLine p i l) z (said 0 (omega arith)) in
      let later : PeriodicsSaid p (n + 1) ls = λ i g. let e : n + suc i ≡ n + 1 + i = omega arith in subst (λ (j : ℕ). PeriodicLine p j (get_or ls i [])) e (said (suc i) (omega arith)) in
      let r = periodics_pass ls first (others ++ bytes_of l ∷ []) (n + 1) m (one_periodic_more roles first others n m b (bytes_of l) x.good.is_kind) later (omega arith) in
      let s : n + 1 + length ls ≡ n + length (l ∷ ls) = omega arith in (
        (periodic_passes first others n m b l (omega arith) x, r.0),
        subst (λ (y : ℕ). Before roles first (others ++ frames_of (l ∷ ls)) y m) s
            (subst (λ (y : List (List ℕ)). Before roles first y (n + 1 + length ls) m) (append_assoc others (bytes_of l ∷ []) (frames_of ls)) r.1),
      )

  triggers_pass : (ls : List (List ℕ)) (first : List ℕ) (others : List (List ℕ)) (n m : ℕ) → Before roles first others n m → TriggersSaid t m ls → m + length ls ≤ T
      → PassesFrom (first ∷ others) ls × Before roles first (others ++ frames_of ls) n (m + length ls)
  triggers_pass [] first others n m b said h =
      (tt, subst (λ (x : ℕ). Before roles first (others ++ []) n x) (let z : m ≡ m + 0 = omega arith in z) (subst (λ (x : List (List ℕ)). Before roles first x n m) (sym (append-nil others)) b))
  triggers_pass (l ∷ ls) first others n m b said h =
      let z : m + 0 ≡ m = omega arith in
      let x : TriggerLine t m l = subst (λ (i : ℕ). TriggerLine t i l) z (said 0 (omega arith)) in
      let later : TriggersSaid t (m + 1) ls = λ i g. let e : m + suc i ≡ m + 1 + i = omega arith in subst (λ (j : ℕ). TriggerLine t j (get_or ls i [])) e (said (suc i) (omega arith)) in
      let r = triggers_pass ls first (others ++ bytes_of l ∷ []) n (m + 1) (one_trigger_more roles first others n m b (bytes_of l) x.good.is_kind) later (omega arith) in
      let s : m + 1 + length ls ≡ m + length (l ∷ ls) = omega arith in (
        (trigger_passes first others n m b l (omega arith) x, r.0),
        subst (λ (y : ℕ). Before roles first (others ++ frames_of (l ∷ ls)) n y) s
            (subst (λ (y : List (List ℕ)). Before roles first y n (m + 1 + length ls)) (append_assoc others (bytes_of l ∷ []) (frames_of ls)) r.1),
      )

  module _ (ls : List (List ℕ)) (x : Writes R ls) where
    abbrev h : List ℕ
    h = x.header

    abbrev ps : List (List ℕ)
    ps = x.periodics

    abbrev ts : List (List ℕ)
    ts = x.triggers

    abbrev e : List ℕ
    e = x.end

    after_header : Before roles (bytes_of h) [] 0 0
    after_header =
        let k : kind (bytes_of h) ≡ HEADER = x.is_header.good.is_kind in
        record { roles_are = x.is_header.role_count; periodics_are = rw k refl; triggers_are = rw k refl; no_end = rw k refl }

    said_periodics : PeriodicsSaid p 0 ps
    said_periodics i b = let z : i ≡ 0 + i = omega arith in subst (λ (j : ℕ). PeriodicLine p j (get_or ps i [])) z (x.each_periodic i (omega (arith, x.periodic_count)))

    said_triggers : TriggersSaid t 0 ts
    said_triggers i b = let z : i ≡ 0 + i = omega arith in subst (λ (j : ℕ). TriggerLine t j (get_or ts i [])) z (x.each_trigger i (omega (arith, x.trigger_count)))

    all_pass_lem : PassesFrom [] (h ∷ (ps ++ (ts ++ e ∷ [])))
    all_pass_lem =
        let a = periodics_pass ps (bytes_of h) [] 0 0 after_header said_periodics (omega (arith, x.periodic_count)) in
        let b = triggers_pass ts (bytes_of h) (frames_of ps) (0 + length ps) 0 a.1 said_triggers (omega (arith, x.trigger_count)) in
        let n : P ≡ 0 + length ps = omega (arith, x.periodic_count) in
        let m : T ≡ 0 + length ts = omega (arith, x.trigger_count) in
        let is_end : EndLine (0 + length ps) (0 + length ts) e = subst (λ (i : ℕ). EndLine i (0 + length ts) e) n (subst (λ (i : ℕ). EndLine P i e) m x.is_end) in (
          header_passes h x.is_header,
          passes_append (bytes_of h ∷ []) ps (ts ++ e ∷ []) a.0
              (passes_append (bytes_of h ∷ frames_of ps) ts (e ∷ []) b.0
              (end_passes (bytes_of h) (frames_of ps ++ frames_of ts) (0 + length ps) (0 + length ts) b.1 e is_end, tt)),
        )

    passes_all : PassesFrom [] ls
    passes_all = subst (PassesFrom []) (sym x.lines) all_pass_lem

    -- each is framed
    pub each_framed : (k : ℕ) → k < length ls → framed (get_or ls k []) ≡ true
    each_framed k b = (passed_at [] ls passes_all k b).frame

    -- ---- the lines of each kind

    kind_periodic : (i : ℕ) → i < length ps → kind (bytes_of (get_or ps i [])) ≡ PERIODIC
    kind_periodic i b = (x.each_periodic i (omega (arith, x.periodic_count))).good.is_kind

    kind_trigger : (i : ℕ) → i < length ts → kind (bytes_of (get_or ts i [])) ≡ TRIGGER
    kind_trigger i b = (x.each_trigger i (omega (arith, x.trigger_count))).good.is_kind

    abbrev is_header : kind (bytes_of h) ≡ HEADER
    is_header = x.is_header.good.is_kind

    abbrev is_end : kind (bytes_of e) ≡ END
    is_end = x.is_end.good.is_kind

    pub of_periodics : lines_of_kind PERIODIC ls ≡ ps
    of_periodics =
        ap (lines_of_kind PERIODIC) x.lines
        ∙ of_other PERIODIC h (ps ++ (ts ++ e ∷ [])) (λ a. omega (arith, is_header))
        ∙ of_append PERIODIC ps (ts ++ e ∷ [])
        ∙ ap₂ (λ (u v : List (List ℕ)). u ++ v) (of_all PERIODIC ps kind_periodic)
        (of_append PERIODIC ts (e ∷ []) ∙ ap₂ (λ (u v : List (List ℕ)). u ++ v) (of_none PERIODIC ts (λ i b a. omega (arith, kind_trigger i b))) (of_other PERIODIC e [] (λ a. omega (arith, is_end))))
        ∙ append-nil ps

    pub of_triggers : lines_of_kind TRIGGER ls ≡ ts
    of_triggers =
        ap (lines_of_kind TRIGGER) x.lines
        ∙ of_other TRIGGER h (ps ++ (ts ++ e ∷ [])) (λ a. omega (arith, is_header))
        ∙ of_append TRIGGER ps (ts ++ e ∷ [])
        ∙ ap₂ (λ (u v : List (List ℕ)). u ++ v) (of_none TRIGGER ps (λ i b a. omega (arith, kind_periodic i b)))
        (of_append TRIGGER ts (e ∷ []) ∙ ap₂ (λ (u v : List (List ℕ)). u ++ v) (of_all TRIGGER ts kind_trigger) (of_other TRIGGER e [] (λ a. omega (arith, is_end))))
        ∙ append-nil ts

    of_end : lines_of_kind END ls ≡ e ∷ []
    of_end =
        ap (lines_of_kind END) x.lines
        ∙ of_other END h (ps ++ (ts ++ e ∷ [])) (λ a. omega (arith, is_header))
        ∙ of_append END ps (ts ++ e ∷ [])
        ∙ ap₂ (λ (u v : List (List ℕ)). u ++ v) (of_none END ps (λ i b a. omega (arith, kind_periodic i b)))
        (of_append END ts (e ∷ []) ∙ ap₂ (λ (u v : List (List ℕ)). u ++ v) (of_none END ts (λ i b a. omega (arith, kind_trigger i b))) (of_this END e [] is_end))

    of_header : lines_of_kind HEADER ls ≡ h ∷ []
    of_header =
        ap (lines_of_kind HEADER) x.lines
        ∙ of_this HEADER h (ps ++ (ts ++ e ∷ [])) is_header
        ∙ ap (λ (u : List (List ℕ)). h ∷ u)
        (of_append HEADER ps (ts ++ e ∷ [])
        ∙ ap₂ (λ (u v : List (List ℕ)). u ++ v) (of_none HEADER ps (λ i b a. omega (arith, kind_periodic i b)))
        (of_append HEADER ts (e ∷ []) ∙ ap₂ (λ (u v : List (List ℕ)). u ++ v) (of_none HEADER ts (λ i b a. omega (arith, kind_trigger i b))) (of_other HEADER e [] (λ a. omega (arith, is_end)))))

    -- so they are in table order
    pub written_in_order : in_table_order ls ≡ ls
    written_in_order = (λ i. of_header i ++ (of_periodics i ++ (of_triggers i ++ of_end i))) ∙ sym x.lines

    -- THE LAW: what was written reads whole
    pub written_whole : ReadsWhole ls []
    written_whole = record { each = to_each ls passes_all; no_rest = refl; end_there = omega (arith, count_of END ls, ap length of_end) }

    -- ---- and has its rows

    abbrev fs : List (List ℕ)
    fs = frames_of ls

    -- what is handed out of it
    abbrev pub handed : Rules
    handed = rules (counts_of fs) (periodic_table fs) (trigger_table fs)

    same_counts : R.counts ≡ counts_of fs
    same_counts =
        let a : roles ≡ role_count fs = sym x.is_header.role_count ∙ sym (ap (λ (y : List (List ℕ)). role_count (frames_of y)) x.lines) in
        let b : P ≡ how_many PERIODIC fs = sym (count_of PERIODIC ls ∙ ap length of_periodics ∙ x.periodic_count) in
        let c : T ≡ how_many TRIGGER fs = sym (count_of TRIGGER ls ∙ ap length of_triggers ∙ x.trigger_count) in
        λ i. record { roles = a i; periodics = b i; triggers = c i }

    periodics_there : length (lines_of_kind PERIODIC ls) ≡ P
    periodics_there = ap length of_periodics ∙ x.periodic_count

    triggers_there : length (lines_of_kind TRIGGER ls) ≡ T
    triggers_there = ap length of_triggers ∙ x.trigger_count

    -- byte j of row i
    periodic_there : (i j : ℕ) → i < P → j < PERIODIC_BYTES → byte_at p (PERIODIC_BYTES * i + j) ≡ byte_at (periodic_table fs) (PERIODIC_BYTES * i + j)
    periodic_there i j b c =
        sym (in_table PERIODIC periodic_row PERIODIC_BYTES length_periodic PERIODIC_TABLE ls i j (omega (arith, periodics_there)) c
        ∙ ap (λ (y : List (List ℕ)). byte_at (periodic_row (bytes_of (get_or y i []))) j) of_periodics
        ∙ (x.each_periodic i b).row j c)

    row_there : (i j : ℕ) → i < T → j < TRIGGER_BYTES → byte_at (trigger_table fs) (TRIGGER_BYTES * i + j) ≡ byte_at (trigger_row (bytes_of (get_or ts i []))) j
    row_there i j b c =
        in_table TRIGGER trigger_row TRIGGER_BYTES length_trigger TRIGGER_TABLE ls i j (omega (arith, triggers_there)) c
        ∙ ap (λ (y : List (List ℕ)). byte_at (trigger_row (bytes_of (get_or y i []))) j) of_triggers

    -- what stands in an unused place
    place_there : (i k : ℕ) → i < T → k < TRIGGER_BYTES → ¬ UsedByte (trigger_at t i) k → byte_at (trigger_row (bytes_of (get_or ts i []))) k ≡ 0
    unfolding trigger_from
    place_there i k b c n =
        let l : List ℕ = get_or ts i [] in
        let y = x.each_trigger i b in
        let ec = event_count t i l y in
        let cc' = condition_count t i l y in
        by_cases (dec_lt k 2)
        (λ (a : k < 2). absurd (n ((λ u v. absurd (omega arith)), (λ u v. absurd (omega arith)))))
        (λ (a : ¬ (k < 2)).
        by_cases (dec_lt k 6)
        (λ (d : k < 6).
        by_cases (dec_lt (k - 2) (byte_at t (TRIGGER_BYTES * i)))
        (λ (u : k - 2 < byte_at t (TRIGGER_BYTES * i)). absurd (n ((λ v w. omega arith), (λ v w. absurd (omega arith)))))
        (λ (u : ¬ (k - 2 < byte_at t (TRIGGER_BYTES * i))).
        let z : 2 + (k - 2) ≡ k = omega arith in
        subst (λ (q : ℕ). byte_at (trigger_row (bytes_of l)) q ≡ 0) z (event_past (bytes_of l) (k - 2) (omega arith) (omega (arith, ec)))))
        (λ (d : ¬ (k < 6)).
        by_cases (dec_lt k 10)
        (λ (g : k < 10).
        by_cases (dec_lt (k - 6) (byte_at t (TRIGGER_BYTES * i + 1)))
        (λ (u : k - 6 < byte_at t (TRIGGER_BYTES * i + 1)). absurd (n ((λ v w. absurd (omega arith)), (λ v w. omega arith))))
        (λ (u : ¬ (k - 6 < byte_at t (TRIGGER_BYTES * i + 1))).
        let z : 6 + (k - 6) ≡ k = omega arith in
        subst (λ (q : ℕ). byte_at (trigger_row (bytes_of l)) q ≡ 0) z (condition_past (bytes_of l) (k - 6) (omega arith) (omega (arith, cc')))))
        (λ (g : ¬ (k < 10)). absurd (n ((λ u v. absurd (omega arith)), (λ u v. absurd (omega arith)))))))

    module _ (periodic_bytes : length p ≡ PERIODIC_TABLE) (trigger_bytes : length t ≡ TRIGGER_TABLE) where
      -- THE LAW: the same rows, and nothing else
      pub written_rows : OnlyItsRows R handed
      written_rows =
          record {
            same =
                record {
                  counts = same_counts;
                  periodics =
                      record {
                        size = periodic_bytes ∙ sym (table_length PERIODIC periodic_row PERIODIC_BYTES length_periodic PERIODIC_TABLE ls (omega (arith, periodics_there, few_rows_lem.0)));
                        bytes = λ k b.
                            let z : PERIODIC_BYTES * (k / PERIODIC_BYTES) + k % PERIODIC_BYTES ≡ k = omega arith in
                            subst (λ (j : ℕ). byte_at p j ≡ byte_at (periodic_table fs) j) z (periodic_there (k / PERIODIC_BYTES) (k % PERIODIC_BYTES) (omega arith) (omega arith));
                      };
                  triggers =
                      record {
                        size = trigger_bytes ∙ sym (table_length TRIGGER trigger_row TRIGGER_BYTES length_trigger TRIGGER_TABLE ls (omega (arith, triggers_there, few_rows_lem.1)));
                        bytes = λ i k b c u. sym (row_there i k b c ∙ (x.each_trigger i b).row k c u);
                      };
                };
            periodic_rest = λ k b. past_rows PERIODIC periodic_row PERIODIC_BYTES length_periodic PERIODIC_TABLE ls k (omega (arith, periodics_there));
            trigger_rest = λ k b. past_rows TRIGGER trigger_row TRIGGER_BYTES length_trigger TRIGGER_TABLE ls k (omega (arith, triggers_there));
            places = λ i k b c n. row_there i k b c ∙ place_there i k b c n;
          }

      -- so it is the same sheet, which has no loop either
      pub written_same : SameUsed (sheet_in R) (sheet_in handed)
      unfolding sheet_of
      written_same =
          let o = written_rows in
          record {
            role_count = ap (λ (n : Counts). n.roles) same_counts;
            periodic_count = ap (λ (n : Counts). n.periodics) same_counts;
            trigger_count = ap (λ (n : Counts). n.triggers) same_counts;
            periodics = periodic_same P p (periodic_table fs) o.same.periodics;
            triggers = λ i l. let few = few_in_body i l in trigger_same T t (trigger_table fs) o.same.triggers i l few.0 few.1;
          }

      pub written_loopless : NoLoop (sheet_in R) → NoLoop (sheet_said fs)
      written_loopless n = noloop_used (sheet_in R) (sheet_in handed) written_same n
