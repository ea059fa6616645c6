-- Request 2: what the column of a sheet's refusal says, that the line for the screen is there and holds it, and that a step has none.
-- Assumes nothing.
use Rattle.std.proofs.Math.Path.{◌≡◌, refl, ap, subst}
use Rattle.std.proofs.Common.{sym, ◌∙◌, inl, inr, arith, get_or-append-add, leb-true, ltb-true}
use Rattle.std.specs.Prelude.{◌⊎◌, Bool, true, false, cond, List, [], ◌∷◌, ◌++◌, ℕ, zero, suc, ◌+◌, ◌^◌, ◌≤◌, ◌<◌, ltb, get_or, Err, Ok, Result}
use Rattle.std.proofs.Math.Logic.{⊎_elim, by_cases}
use Rattle.std.proofs.Math.Decide.{dec_lt, ℕ_discrete}
use Rattle.std.proofs.Math.Dec.{leb}
use Rattle.std.proofs.Math.ListN.{length, length-append, get_or-append}
use Rattle.theory.proofs.Laws.Tests.{test, not_both}
use Rattle.theory.specs.Numbers.{LAST_INSTANT, REQUESTS}
use Rattle.theory.specs.LoopTest.{PAIRS, loop_place}
use Rattle.theory.specs.Sheet.{Sheet}
use Rattle.answers.specs.declared.Name.{Name}
use Rattle.answers.specs.declared.Name.TheVariants.{Length, Frame, Check, Kind, Field, TooMany, Count, Loop, Request, Last}
use Rattle.answers.specs.declared.Refusal.{Refusal}
use Rattle.answers.specs.Answers.{refusal, and_then, Verdict}
use Rattle.text.specs.Lines.{LINE_END, Lines, none, endless, line, lines, all_lines}
use Rattle.text.specs.Laws.Lines.{text_of, text_lines}
use Rattle.frames.specs.Frame.{bytes_of}
use Rattle.tables.specs.Asked.{Asked}
use Rattle.tables.specs.Lent.{Tables, Rules, sheet_in, Lent}
use Rattle.line_readers.specs.Says.{ColumnSays, InLine, FaultyAt}
use Rattle.line_readers.specs.Laws.Column.{any_field}
use Rattle.line_readers.specs.Walks as walk
use Rattle.line_readers.specs.Walks.{Going, goes}
use Rattle.fields.specs.Fields.{FieldColumn}
use Rattle.sheet_acts.specs.Acts.{Progress}
use Rattle.reader.specs.Lines.{reads}
use Rattle.reader.specs.Out.{ReadOutcome, read_outcome, sheet_read, out_by_loop}
use Rattle.reader.specs.Reading.{start, by_lines, sheet_lengths_fit, reading}
use Rattle.reader.proofs.Laws.Column.{sheet_faulty}
use Rattle.line_by_line.specs.Lines.{lines_in, rest_in}
use Rattle.line_by_line.specs.Tests.{role_count}
use Rattle.line_by_line.specs.ComesBack.{frames_before, faulty_line, ComesBack, by_length, at_line, by_loop, accepted}
use Rattle.line_by_line.proofs.Laws.Columns.{column_says}
use Rattle.row_judge.specs.Judge.{few_rows, roles_fit, row_count, first_unfit, judge_rows}
use Rattle.table_judge.specs.Judge.{judge_loop, judge_tables}
use Rattle.requests.specs.Requests.{first_outside, judge_requests}
use Rattle.step.specs.Outcome.{lengths_fit, judge_step}
use Rattle.tape_tests.specs.declared.Heard.{Heard}
use Rattle.tape.specs.Tape.{tape_read}
use Rattle.tape.specs.Laws.Column.{AtInstant, tape_faulty}
use Rattle.day_split.specs.Split.{sheet_lines, sheet_part, tape_part}
use Rattle.day_split.proofs.Laws.Lines.{both_lines_lem, sheet_count}
use Rattle.day_input.specs.Opening.{INPUT_BYTES, Opening, refused, after_tape, after_sheet, sheet_reading, opening}
use Rattle.faulty_line.specs.Part.{has_line, tapes_end, faulty_part, both_lines}
use Rattle.faulty_line.specs.Laws.{no_line, no_place}
use Rattle.faulty_line.specs.Laws.Shown.{shows_line, shows_past}
use Rattle.claims.specs.Words.{Shows, EndMissing, NoColumn, no_periodics, no_triggers}
use Rattle.claims.specs.Laws.ComesBack.{reader_says}
use Rattle.tables.specs.declared.Counts.{Counts}

-- ---- what it says, of a sheet

module _ (sheet p t : List ℕ) where
  -- of a refusal at its place
  abbrev Column : Refusal → Type 0
  Column r =
      let l : List ℕ = faulty_line (lines_in sheet) (rest_in sheet) r.place in
      ColumnSays r.name l (FieldColumn (role_count (frames_before (lines_in sheet) r.place)) (bytes_of l)) r.column

  -- two outcomes that are refusals
  answer_same : (r x : Refusal) → read_outcome (Err r) p t ≡ read_outcome (Err x) p t → x ≡ r
  answer_same r x e = let q : ◌≡◌ {A = (Result Counts Refusal)} (Err r) (Err x) = ap (λ (o : ReadOutcome). o.answer) e in cc

  pub reader_column : (r : Refusal) → reading sheet p t ≡ read_outcome (Err r) p t → Column r
  reader_column r e = from ((reader_says sheet p t (read_outcome (Err r) p t)).0 e)
    where
      from : ComesBack sheet p t (read_outcome (Err r) p t) → Column r
      from (by_length f q) = subst Column (answer_same r (refusal Length 0) q) refl
      from (at_line name k l x q) = subst Column (answer_same r _ q) (column_says (lines_in sheet) (rest_in sheet) name k x).says
      from (by_loop k l w x q) = subst Column (answer_same r (refusal Loop k) q) refl
      from (accepted l w x q) = absurd (let z : ◌≡◌ {A = (Result Counts Refusal)} (Err r) (Ok _) = ap (λ (o : ReadOutcome). o.answer) q in let z' : ◌≡◌ {A = ℕ} 0 1 = cc in omega arith)

-- ---- where a refusal is

-- at a line of these, or at the one after the last, or at none
pub data Where (ls : List (List ℕ)) (r : Refusal) : Type 0 where
  at_line_of : FaultyAt (λ k. Unit {0}) ls 0 r → Where ls r
  end_missing : (n : ℕ) → n ≤ length ls → EndMissing n r → Where ls r
  nowhere : has_line r.name ≡ false → r.column ≡ 0 → r.place < PAIRS → Where ls r

-- the line after the last, with its number in another form
missing : (ls : List (List ℕ)) (n m : ℕ) (r : Refusal) → n + 1 ≡ suc m → m ≤ length ls → r ≡ refusal Kind (n + 1) → Where ls r
missing ls n m r e l q = end_missing m l (q ∙ ap (refusal Kind) e)

module _ (r : Refusal) where
  -- two answers that are refusals
  same_answer : (x : Refusal) → ◌≡◌ {A = (Result Counts Refusal)} (Err x) (Err r) → x ≡ r
  same_answer x e = cc

  -- LOOP is at none
  by_pair : (ls : List (List ℕ)) (k : ℕ) (b : Bool) → ltb k PAIRS ≡ b → (s : Progress) (p t : List ℕ)
      → (cond b (read_outcome (Err (refusal Loop k)) p t) (record { answer = Ok s.seen.counts; tables = s.tables })).answer ≡ Err r → Where ls r
  by_pair ls k true h s p t e = subst (Where ls) (same_answer (refusal Loop k) e) (nowhere refl refl (ltb-true k PAIRS h))
  by_pair ls k false h s p t e = absurd (let z : ◌≡◌ {A = ℕ} 0 1 = cc in omega arith)

  by_lines_lem : (sheet : List ℕ) (x : Going Progress) (p t : List ℕ) → reads (goes start) (lines sheet) ≡ x → (by_lines x p t).answer ≡ Err r → Where (all_lines (lines sheet)) r
  unfolding by_lines out_by_loop
  by_lines_lem sheet (walk.refused y) p t w e =
      ⊎_elim
      (λ (f : FaultyAt (λ k. Unit {0}) (all_lines (lines sheet)) 0 r). at_line_of f)
      (λ (q : r ≡ refusal Kind (length (all_lines (lines sheet)) + 1)). missing (all_lines (lines sheet)) (length (all_lines (lines sheet))) (length (all_lines (lines sheet))) r (omega arith) (omega arith) q)
      (sheet_faulty sheet r (w ∙ ap walk.refused (same_answer y e)))
  by_lines_lem sheet (goes s) p t w e = by_pair (all_lines (lines sheet)) (loop_place (sheet_read s)) (ltb (loop_place (sheet_read s)) PAIRS) refl s p t e

  sheet_where : (sheet p t : List ℕ) → (reading sheet p t).answer ≡ Err r → Where (all_lines (lines sheet)) r
  unfolding reading
  sheet_where sheet p t e =
      ⊎_elim
      (λ (w : sheet_lengths_fit (length sheet) (length p) (length t) ≡ true). by_lines_lem sheet (reads (goes start) (lines sheet)) p t refl (rw w at e))
      (λ (w : sheet_lengths_fit (length sheet) (length p) (length t) ≡ false).
      let q : ◌≡◌ {A = (Result Counts Refusal)} (Err (refusal Length 0)) (Err r) = rw w at e in
      subst (Where (all_lines (lines sheet))) (same_answer (refusal Length 0) q) (nowhere refl refl (omega arith)))
      (test (sheet_lengths_fit (length sheet) (length p) (length t)))

  -- with other lines after them
  where_more : (S T : List (List ℕ)) → Where S r → Where (S ++ T) r
  where_more S T (at_line_of f) =
      let i = f.in_line in
      at_line_of (record {
        number = f.number;
        there = omega (arith, f.there, length-append S T);
        in_line = subst (λ (l : List ℕ). InLine (λ k. Unit {0}) l (0 + 1 + f.number) r) (sym (get_or-append S T [] f.number f.there)) i;
      })
  where_more S T (end_missing n l q) = end_missing n (omega (arith, length-append S T)) q
  where_more S T (nowhere h c p) = nowhere h c p

  -- ---- of an input

  module _ (input : List ℕ) where
    abbrev S : List (List ℕ)
    S = all_lines (lines (sheet_part input))

    abbrev T : List (List ℕ)
    T = all_lines (lines (tape_part input))

    same : (x : Refusal) → ◌≡◌ {A = Opening} (refused x) (refused r) → x ≡ r
    same x e = cc

    -- the tape's lines stand after the sheet's
    from_tape : FaultyAt AtInstant T (sheet_lines (lines input)) r → Where (S ++ T) r
    from_tape f =
        let n : ℕ = f.number in
        let i = f.in_line in
        let c : sheet_lines (lines input) ≡ length S = sheet_count input in
        let j : InLine (λ k. Unit {0}) (get_or T n []) (sheet_lines (lines input) + 1 + n) r = any_field (get_or T n []) (sheet_lines (lines input) + 1 + n) r i in
        let k : InLine (λ k. Unit {0}) (get_or T n []) (0 + 1 + (length S + n)) r = record { at_place = omega (arith, j.at_place, c); says = j.says; within = j.within } in
        at_line_of (record {
          number = length S + n;
          there = omega (arith, f.there, length-append S T);
          in_line = subst (λ (l : List ℕ). InLine (λ k. Unit {0}) l (0 + 1 + (length S + n)) r) (sym (get_or-append-add S T n [])) k;
        })

    by_heard_lem : (sh : Sheet) (ls : Lines) (roles : ℕ) (x : Going Heard) → tape_read roles (sheet_lines (lines input)) (tape_part input) ≡ x → after_tape sh ls x ≡ refused r → Where (S ++ T) r
    unfolding after_tape
    by_heard_lem sh ls roles (goes s) w e = absurd (let z : ◌≡◌ {A = ℕ} 0 1 = cc in omega arith)
    by_heard_lem sh ls roles (walk.refused x) w e =
        let c : sheet_lines (lines input) ≡ length S = sheet_count input in
        ⊎_elim
        (λ (f : FaultyAt AtInstant T (sheet_lines (lines input)) r). from_tape f)
        (λ (q : r ≡ refusal Kind (sheet_lines (lines input) + length T + 1)).
        missing (S ++ T) (sheet_lines (lines input) + length T) (length S + length T) r (omega (arith, c)) (omega (arith, length-append S T)) q)
        (tape_faulty roles (sheet_lines (lines input)) (tape_part input) r (w ∙ ap walk.refused (same x e)))

    by_answer : (a : Result Counts Refusal) (tables : Tables) → (sheet_reading input).answer ≡ a → after_sheet input a tables ≡ refused r → Where (S ++ T) r
    unfolding after_sheet
    by_answer (Ok counts) tables w e =
        by_heard_lem (sheet_in (record { counts = counts; tables = tables })) (lines (tape_part input)) counts.roles (tape_read counts.roles (sheet_lines (lines input)) (tape_part input)) refl e
    by_answer (Err x) tables w e = where_more S T (sheet_where (sheet_part input) no_periodics no_triggers (w ∙ ap Err (same x e)))

    -- THE LAW
    where_is : opening input ≡ refused r → Where (S ++ T) r
    unfolding opening
    where_is e =
        ⊎_elim
        (λ (w : leb (length input) INPUT_BYTES ≡ true). by_answer (sheet_reading input).answer (sheet_reading input).tables refl (rw w at e))
        (λ (w : leb (length input) INPUT_BYTES ≡ false).
        let q : ◌≡◌ {A = Opening} (refused (refusal Length 0)) (refused r) = rw w at e in
        subst (Where (S ++ T)) (same (refusal Length 0) q) (nowhere refl refl (omega arith)))
        (test (leb (length input) INPUT_BYTES))

-- ---- the line for the screen

-- a refusal with a column has a line
has_line_lem : (name : Name) (l : List ℕ) (Bad : ℕ → Type 0) (k : ℕ) → ColumnSays name l Bad k → ¬ (k ≡ 0) → has_line name ≡ true
has_line_lem Frame l Bad k s c = refl
has_line_lem Check l Bad k s c = refl
has_line_lem Field l Bad k s c = refl
has_line_lem Kind l Bad k s c = absurd (c s)
has_line_lem TooMany l Bad k s c = absurd (c s)
has_line_lem Count l Bad k s c = absurd (c s)
has_line_lem Request l Bad k s c = absurd (c s)
has_line_lem Length l Bad k s c = absurd (c s)
has_line_lem Loop l Bad k s c = absurd (c s)
has_line_lem Last l Bad k s c = absurd (c s)

module _ (sheet tape : List ℕ) (r : Refusal) where
  shows : has_line r.name ≡ true → FaultyAt (λ k. Unit {0}) (both_lines sheet tape) 0 r → Shows sheet tape r
  shows h f =
      let n : ℕ = f.number in
      let e : r.place ≡ suc n = omega (arith, f.in_line.at_place) in
      record { number = n; at_place = e; there = f.there; is_line = shows_line sheet tape r h n e f.there; within = f.in_line.within }

  -- with a line: it is shown, or the end is missing
  by_name : has_line r.name ≡ true → Where (both_lines sheet tape) r → Shows sheet tape r ⊎ ((n : ℕ) × (n ≤ length (both_lines sheet tape)) × EndMissing n r)
  by_name h (at_line_of f) = inl (shows h f)
  by_name h (end_missing n l q) = inr (n, l, q)
  by_name h (nowhere g c p) = not_both h g

  -- with a column it is shown
  by_column : ¬ (r.column ≡ 0) → Where (both_lines sheet tape) r → Shows sheet tape r
  by_column c (at_line_of f) = shows (has_line_lem r.name _ _ r.column f.in_line.says c) f
  by_column c (end_missing n l q) = absurd (c (ap (λ (x : Refusal). x.column) q))
  by_column c (nowhere g z p) = absurd (c z)

  -- of the reader alone, beside any tape
  module _ (p t : List ℕ) (refuses : reading sheet p t ≡ read_outcome (Err r) p t) where
    reads_where : Where (both_lines sheet tape) r
    reads_where = where_more r (all_lines (lines sheet)) (all_lines (lines tape)) (sheet_where r sheet p t (ap (λ (o : ReadOutcome). o.answer) refuses))

    pub reader_shows : ¬ (r.column ≡ 0) → Shows sheet tape r
    reader_shows c = by_column c reads_where

-- of an input
pub line_there : (input : List ℕ) (r : Refusal) → opening input ≡ refused r → ¬ (r.column ≡ 0) → Shows (sheet_part input) (tape_part input) r
line_there input r e c = by_column (sheet_part input) (tape_part input) r c (where_is r input e)

pub line_or_end : (input : List ℕ) (r : Refusal) → opening input ≡ refused r → has_line r.name ≡ true
    → Shows (sheet_part input) (tape_part input) r ⊎ ((n : ℕ) × (n ≤ length (all_lines (lines input))) × EndMissing n r)
line_or_end input r e h =
    subst (λ (ls : List (List ℕ)). Shows (sheet_part input) (tape_part input) r ⊎ ((n : ℕ) × (n ≤ length ls) × EndMissing n r)) (both_lines_lem input)
    (by_name (sheet_part input) (tape_part input) r h (where_is r input e))

-- ---- both numbers are small

-- lines are no longer, and no more but for one, than the bytes of their text
line_short : (ls : Lines) (n : ℕ) → length (get_or (all_lines ls) n []) ≤ length (text_of ls)
unfolding text_of
line_short none n = omega arith
line_short (endless l) zero = omega arith
line_short (endless l) (suc n) = omega arith
line_short (line l ls) zero = omega (arith, length-append l (LINE_END ∷ text_of ls))
line_short (line l ls) (suc n) = omega (arith, length-append l (LINE_END ∷ text_of ls), line_short ls n)

lines_few : (ls : Lines) → length (all_lines ls) ≤ suc (length (text_of ls))
unfolding text_of
lines_few none = omega arith
lines_few (endless l) = omega arith
lines_few (line l ls) = omega (arith, length-append l (LINE_END ∷ text_of ls), lines_few ls)

-- an input that is refused otherwise than for its length is not too long
input_size : (input : List ℕ) (r : Refusal) → opening input ≡ refused r → (length input ≤ INPUT_BYTES) ⊎ (r ≡ refusal Length 0)
unfolding opening
input_size input r e =
    ⊎_elim
    (λ (w : leb (length input) INPUT_BYTES ≡ true). inl (leb-true (length input) INPUT_BYTES w))
    (λ (w : leb (length input) INPUT_BYTES ≡ false).
    let q : ◌≡◌ {A = Opening} (refused (refusal Length 0)) (refused r) = rw w at e in
    inr (sym (same r input (refusal Length 0) q)))
    (test (leb (length input) INPUT_BYTES))

-- so they are small
pub numbers_small : (input : List ℕ) (r : Refusal) → opening input ≡ refused r → (r.place < 2 ^ 32) × (r.column < 2 ^ 32)
numbers_small input r e =
    ⊎_elim
    (λ (w : length input ≤ INPUT_BYTES). within w (subst (λ (ls : List (List ℕ)). Where ls r) (both_lines_lem input) (where_is r input e)))
    (λ (q : r ≡ refusal Length 0). rw q (omega arith, omega arith))
    (input_size input r e)
  where
    within : length input ≤ INPUT_BYTES → Where (all_lines (lines input)) r → (r.place < 2 ^ 32) × (r.column < 2 ^ 32)
    within w (at_line_of f) =
        let a = line_short (lines input) f.number in
        let b = lines_few (lines input) in
        let s : length (text_of (lines input)) ≡ length input = ap length (text_lines input) in
        (omega (arith, f.in_line.at_place, f.there, b, s, w), omega (arith, f.in_line.within, a, s, w))
    within w (end_missing n l q) =
        let b = lines_few (lines input) in
        let s : length (text_of (lines input)) ≡ length input = ap length (text_lines input) in
        (omega (arith, ap (λ (x : Refusal). x.place) q, l, b, s, w), omega (arith, ap (λ (x : Refusal). x.column) q))
    within w (nowhere h c p) = (omega (arith, p), omega (arith, c))

-- ---- where there is no line

pub not_shown : (sheet tape : List ℕ) (r : Refusal) → ¬ ((has_line r.name ≡ true) × (1 ≤ r.place) × (r.place ≤ length (both_lines sheet tape))) → faulty_part sheet tape r ≡ tapes_end tape
not_shown sheet tape r n =
    ⊎_elim
    (λ (h : has_line r.name ≡ true).
    by_cases (ℕ_discrete r.place 0)
    (λ (z : r.place ≡ 0). sym (no_place sheet tape r h z))
    (λ (z : ¬ (r.place ≡ 0)).
    by_cases (dec_lt (length (both_lines sheet tape)) r.place)
    (λ (l : length (both_lines sheet tape) < r.place). shows_past sheet tape r h l)
    (λ (l : ¬ (length (both_lines sheet tape) < r.place)). absurd (n (h, omega arith, omega arith)))))
    (λ (h : has_line r.name ≡ false). sym (no_line sheet tape r h))
    (test (has_line r.name))

-- ---- a step has none

none_of : (b : Bool) (v w : Verdict) → NoColumn v → NoColumn w → NoColumn (cond b v w)
none_of true v w h k = h
none_of false v w h k = k

none_then : (v w : Verdict) → NoColumn v → NoColumn w → NoColumn (and_then v w)
unfolding and_then
none_then (Ok tt) w h k = k
none_then (Err r) w h k = h

tables_none : (sh : Sheet) → NoColumn (judge_tables sh)
unfolding judge_tables judge_rows judge_loop
tables_none sh =
    none_then (judge_rows sh) (judge_loop sh)
    (none_of (few_rows sh) _ _ (none_of (roles_fit sh) _ _ (none_of (ltb (first_unfit sh) (row_count sh)) _ _ refl refl) refl) refl)
    (none_of (ltb (loop_place sh) PAIRS) _ _ refl refl)

pub step_none : (R : Rules) (q : Asked) (l : Lent) → NoColumn (judge_step R q l)
unfolding judge_step judge_requests
step_none R q l =
    none_of (lengths_fit R l) _ _
    (none_of (leb l.instant LAST_INSTANT) _ _
    (none_of (leb q.count REQUESTS) _ _
    (none_then (judge_tables (sheet_in R)) (judge_requests R.counts.roles q) (tables_none (sheet_in R)) (none_of (ltb (first_outside R.counts.roles q) q.count) _ _ refl refl))
    refl)
    refl)
    refl
