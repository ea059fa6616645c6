-- The two round trips, of the reader's and the writer's outcomes: by `round_trips` what was written reads whole and what was read is written in table order, and the reader gives what document 01 says comes
-- back (`ComesBack`).
-- Assumes nothing.
use Rattle.std.specs.Prelude.{◌≡◌, refl, List, [], ◌++◌, ℕ, ◌≤◌, ◌<◌, length, get_or, take, drop, replicate, Err, Ok, Result}
use Rattle.std.proofs.Common.{sym, ap, ◌∙◌, subst, append-nil, arith, take_at, length-take-le}
use Rattle.std.proofs.Math.Logic.{by_cases}
use Rattle.std.proofs.Math.Decide.{dec_le, ℕ_discrete}
use Rattle.std.proofs.lemmas.List.{length-replicate}
use Rattle.theory.specs.Numbers.{SHEET_BYTES}
use Rattle.theory.specs.Below.{ExactlyOne}
use Rattle.theory.specs.Sheet.{Sheet, GoodOrder}
use Rattle.theory.specs.Graph.{NoLoop}
use Rattle.theory.specs.Used.{SameUsed}
use Rattle.answers.specs.declared.Name.TheVariants.{Length}
use Rattle.answers.specs.declared.Refusal.{Refusal}
use Rattle.answers.specs.Answers.{answered, refusal, verdict_of, pass}
use Rattle.answers.proofs.Laws.{no_pass}
use Rattle.tables.specs.declared.Counts.{Counts}
use Rattle.tables.specs.Layout.{PERIODIC_TABLE, TRIGGER_TABLE}
use Rattle.text.specs.Lines.{lines}
use Rattle.tables.specs.Lent.{Tables, Rules, rules, sheet_in}
use Rattle.reader.specs.Out.{ReadOutcome, read_outcome}
use Rattle.reader.specs.Reading.{reading}
use Rattle.accepted.specs.Laws.Accepted.{reading_good, reading_sizes, reading_passes}
use Rattle.line_by_line.specs.Lines.{lines_in, rest_in, joined, Unbroken}
use Rattle.line_by_line.specs.ComesBack.{frames_of, frames_in, LengthsFit, ReadsWhole, periodic_table, trigger_table, counts_of, sheet_said, ComesBack, by_length, at_line, by_loop, accepted}
use Rattle.line_by_line.proofs.Laws.Cut.{lines_are}
use Rattle.writer.specs.Outcome.{Writes, AtFront, WriteOutcome}
use Rattle.writer.proofs.Laws.Exact.{Passes, passes_say, passes_so, passes_good}
use Rattle.writer.proofs.Laws.Writes.{made, made_writes, writes_one}
use Rattle.writer.proofs.Laws.Room.{LONGEST}
use Rattle.round_trips.specs.Order.{in_table_order, PeriodicsFirst, OnlyItsRows}
use Rattle.round_trips.proofs.Laws.Lengths.{writes_short, framed_unbroken, front_stays}
use Rattle.round_trips.proofs.Laws.Reads.{each_framed, handed, written_in_order, written_whole, written_rows, written_same, written_loopless}
use Rattle.round_trips.proofs.Laws.Writes.{whole_writes, whole_in_order}
use Rattle.round_trips.proofs.Laws.Complete.{said, said_periodic_bytes, said_trigger_bytes, said_lengths, said_same, said_good, said_loopless, used_on}
use Rattle.frames.specs.Frame.{value}
use Rattle.day_split.specs.Split.{begins_end, up_to_end, byte_count, sheet_bytes, sheet_part, tape_part}
use Rattle.day_split.proofs.Laws.Parts.{sheet_bytes_le}
use Rattle.day_input.specs.Opening.{INPUT_BYTES, sheet_reading}
use Rattle.resend.specs.declared.Resent.{Resent}
use Rattle.resend.specs.Resend.{ByAnswer, ResendOutcome}
use Rattle.resend.specs.Laws.{resend_exact}
use Rattle.claims.specs.Words.{SentBack, worked_sheet}
use Rattle.claims.specs.Laws.ComesBack.{reader_says, reader_tables}
use Rattle.claims.specs.Laws.Numbers.{not_ok}

-- ---- what was written, read

module _ (R : Rules) (good : GoodOrder (sheet_in R)) (loopless : NoLoop (sheet_in R)) (sizes : (length R.tables.periodics ≡ PERIODIC_TABLE) × (length R.tables.triggers ≡ TRIGGER_TABLE))
    (ls : List (List ℕ)) (x : Writes R ls) where
  -- no line is broken
  each_unbroken : (k : ℕ) → k < length ls → Unbroken (get_or ls k [])
  each_unbroken k b = framed_unbroken (get_or ls k []) (each_framed R good ls x k b)

  -- so its lines are these, and nothing stands after them
  are_lines : (ls ≡ lines_in (joined ls)) × ([] ≡ rest_in (joined ls))
  are_lines = (lines_are (joined ls) ls []).0 (record { bytes = sym (append-nil (joined ls)); each_line = each_unbroken; the_rest = λ i h. absurd (omega arith) })

  module _ (p t : List ℕ) (of_periodics : length p ≡ PERIODIC_TABLE) (of_triggers : length t ≡ TRIGGER_TABLE) where
    pub written_reads : reading (joined ls) p t ≡ read_outcome (Ok (handed R good ls x).counts) (handed R good ls x).tables.periodics (handed R good ls x).tables.triggers
    written_reads =
        let e = are_lines.0 in
        let whole : ReadsWhole (lines_in (joined ls)) (rest_in (joined ls)) = subst (λ (m : List (List ℕ)). ReadsWhole m (rest_in (joined ls))) e (subst (ReadsWhole ls) are_lines.1 (written_whole R good ls x)) in
        let none : NoLoop (sheet_said (frames_in (joined ls))) = subst (λ (m : List (List ℕ)). NoLoop (sheet_said (frames_of m))) e (written_loopless R good ls x sizes.0 sizes.1 loopless) in
        let fits : LengthsFit (joined ls) p t = record { of_sheet = omega (arith, writes_short R good ls x); of_periodics = of_periodics; of_triggers = of_triggers } in
        (reader_says (joined ls) p t _).1 (accepted fits whole none refl)
        ∙ sym (ap (λ (m : List (List ℕ)). read_outcome (Ok (counts_of (frames_of m))) (periodic_table (frames_of m)) (trigger_table (frames_of m))) e)

-- ---- of the writer's outcome

module _ (R : Rules) (out : List ℕ) (n : ℕ) (out' : List ℕ) (o : WriteOutcome R out (Ok n) out') where
  abbrev front : AtFront R out n out'
  front = o.passed n refl

  abbrev passes : Passes R (length out)
  passes = passes_say R (length out) (sym o.verdict)

  abbrev goods : GoodOrder (sheet_in R) × NoLoop (sheet_in R)
  goods = passes_good R (length out) (sym o.verdict)

  -- the written bytes
  pub written_bytes : take n out' ≡ joined front.sent
  written_bytes = ap (take n) front.buffer ∙ take_at (joined front.sent) (drop (length (joined front.sent)) out) n (sym front.size)

  pub written_short : n ≤ LONGEST
  written_short = omega (arith, front.size, writes_short R goods.0 front.sent front.writes)

  pub written_order : in_table_order (lines_in (take n out')) ≡ lines_in (take n out')
  written_order =
      let sizes : (length R.tables.periodics ≡ PERIODIC_TABLE) × (length R.tables.triggers ≡ TRIGGER_TABLE) = (passes.periodic_bytes, passes.trigger_bytes) in
      let e : lines_in (take n out') ≡ front.sent = ap lines_in written_bytes ∙ sym (are_lines R goods.0 goods.1 sizes front.sent front.writes).0 in
      ap in_table_order e ∙ written_in_order R goods.0 front.sent front.writes ∙ sym e

  pub reads_what_was_written : (p t : List ℕ) → length p ≡ PERIODIC_TABLE → length t ≡ TRIGGER_TABLE
      → (R' : Rules) × (reading (take n out') p t ≡ read_outcome (Ok R'.counts) R'.tables.periodics R'.tables.triggers) × OnlyItsRows R R'
  reads_what_was_written p t a b =
      let sizes : (length R.tables.periodics ≡ PERIODIC_TABLE) × (length R.tables.triggers ≡ TRIGGER_TABLE) = (passes.periodic_bytes, passes.trigger_bytes) in (
        handed R goods.0 front.sent front.writes,
        ap (λ (s : List ℕ). reading s p t) written_bytes ∙ written_reads R goods.0 goods.1 sizes front.sent front.writes p t a b,
        written_rows R goods.0 front.sent front.writes sizes.0 sizes.1,
      )

-- ---- what was read, written

-- an accepted sheet reads whole
module _ (sheet p t : List ℕ) (n : Counts) (p' t' : List ℕ) (e : reading sheet p t ≡ read_outcome (Ok n) p' t') where
  read_whole : ReadsWhole (lines_in sheet) (rest_in sheet)
  read_whole = from ((reader_says sheet p t (read_outcome (Ok n) p' t')).0 e)
    where
      not_bad : {C : Type 0} (x : Refusal) → read_outcome (Ok n) p' t' ≡ read_outcome (Err x) p t → C
      not_bad x h = absurd (let q : Ok n ≡ Err x = ap (λ (o : ReadOutcome). o.answer) h in let z : ◌≡◌ {A = ℕ} 0 1 = cc in omega arith)

      from : ComesBack sheet p t (read_outcome (Ok n) p' t') → ReadsWhole (lines_in sheet) (rest_in sheet)
      from (by_length f h) = not_bad _ h
      from (at_line name k l x h) = not_bad _ h
      from (by_loop k l w x h) = not_bad _ h
      from (accepted l w x h) = w

  -- the lines in table order are those that are written of it
  read_writes : Writes (rules n p' t') (in_table_order (lines_in sheet))
  read_writes =
      let q = reader_tables sheet p t n p' t' e in
      subst (λ (R : Rules). Writes R (in_table_order (lines_in sheet))) (sym (λ i. rules (q.0 i) (q.1 i) (q.2 i))) (whole_writes (lines_in sheet) (rest_in sheet) read_whole)

  -- a sheet is its lines
  sheet_joined : joined (lines_in sheet) ≡ sheet
  sheet_joined =
      let c = (lines_are sheet (lines_in sheet) (rest_in sheet)).1 (refl, refl) in
      sym (c.bytes ∙ ap (λ (r : List ℕ). joined (lines_in sheet) ++ r) read_whole.no_rest ∙ append-nil (joined (lines_in sheet)))

  -- what stands at the front of a buffer is just that
  pub front_order : (out : List ℕ) (size : ℕ) (out' : List ℕ) → AtFront (rules n p' t') out size out' → take size out' ≡ joined (in_table_order (lines_in sheet))
  front_order out size out' f =
      let good = (reading_good sheet p t n p' t' e).0 in
      ap (take size) f.buffer
      ∙ take_at (joined f.sent) (drop (length (joined f.sent)) out) size (sym f.size)
      ∙ ap joined (writes_one (rules n p' t') good f.sent (in_table_order (lines_in sheet)) f.writes read_writes)

  pub order_same : PeriodicsFirst (lines_in sheet) → joined (in_table_order (lines_in sheet)) ≡ sheet
  order_same first = ap joined (whole_in_order (lines_in sheet) (rest_in sheet) read_whole first) ∙ sheet_joined

  module _ (out : List ℕ) (whole : length out ≡ SHEET_BYTES) (out' : List ℕ) where
    passed : (r : Result ℕ Refusal) → WriteOutcome (rules n p' t') out r out' → verdict_of r ≡ pass
    passed r o =
        let sizes = reading_sizes sheet p t n p' t' e in
        o.verdict ∙ passes_so (rules n p' t') (length out) (record { periodic_bytes = sizes.0; trigger_bytes = sizes.1; buffer = whole; tables = reading_passes sheet p t n p' t' e })

    -- it is written, in so many bytes
    pub writes_what_was_read : (r : Result ℕ Refusal) → WriteOutcome (rules n p' t') out r out' → (size : ℕ) × (r ≡ Ok size) × (take size out' ≡ joined (in_table_order (lines_in sheet)))
    writes_what_was_read (Ok size) o = (size, refl, front_order out size out' (o.passed size refl))
    writes_what_was_read (Err x) o = no_pass x (passed (Err x) o)

-- ---- the same, without a table

pub sent_order : (sheet text : List ℕ) → SentBack sheet text → text ≡ joined (in_table_order (lines_in sheet))
sent_order sheet text x = x.bytes ∙ front_order sheet _ _ x.handed.counts x.handed.tables.periodics x.handed.tables.triggers x.read x.before x.sent x.after (x.written.passed x.sent refl)

pub sent_same : (sheet text : List ℕ) → SentBack sheet text → PeriodicsFirst (lines_in sheet) → text ≡ sheet
sent_same sheet text x first = sent_order sheet text x ∙ order_same sheet _ _ x.handed.counts x.handed.tables.periodics x.handed.tables.triggers x.read first

module _ (sheet p t : List ℕ) where
  some_back : (a : Result Counts Refusal) (tables : Tables) → reading sheet p t ≡ record { answer = a; tables = tables } → answered (verdict_of a) ≡ answered pass → SentBack sheet (joined (in_table_order (lines_in sheet)))
  some_back (Err x) tables e ok = not_ok x ok
  some_back (Ok n) tables e ok =
      let R : Rules = rules n tables.periodics tables.triggers in
      let ordered = in_table_order (lines_in sheet) in
      let out : List ℕ = replicate SHEET_BYTES 0 in
      let size = length (joined ordered) in
      let rest : List ℕ = drop size out in
      let sizes = reading_sizes sheet p t n tables.periodics tables.triggers e in
      let passes : Passes R (length out) =
      record { periodic_bytes = sizes.0; trigger_bytes = sizes.1; buffer = length-replicate {A = ℕ} SHEET_BYTES 0; tables = reading_passes sheet p t n tables.periodics tables.triggers e } in
      record {
        lent_periodics = p;
        lent_triggers = t;
        handed = R;
        read = e;
        before = out;
        sent = size;
        after = joined ordered ++ rest;
        written =
            record {
              verdict = sym (passes_so R (length out) passes);
              passed = λ m h. record { sent = ordered; writes = read_writes sheet p t n tables.periodics tables.triggers e; size = sym (let q : size ≡ m = cc in q); buffer = refl };
              refused = λ x h. absurd (let z : ◌≡◌ {A = ℕ} 0 1 = cc h in omega arith);
            };
        bytes = sym (take_at (joined ordered) rest size refl);
      }

  -- an accepted sheet is sent back, in one way
  pub sent_one : answered (verdict_of (reading sheet p t).answer) ≡ record { number = 0; place = 0; column = 0 } → ExactlyOne (SentBack sheet)
  sent_one ok = (_, some_back (reading sheet p t).answer (reading sheet p t).tables refl ok, sent_order sheet)

-- ---- a sheet read and written again

-- one answer has one value
ok_same : (a b : Resent) → ◌≡◌ {A = Result Resent Refusal} (Ok a) (Ok b) → a ≡ b
ok_same a b e = cc

module _ (input out : List ℕ) where
  -- what the reader makes of the input's sheet
  abbrev sheet : List ℕ
  sheet = sheet_part input

  abbrev ordered : List (List ℕ)
  ordered = in_table_order (lines_in sheet)

  -- both lengths are as they must be
  abbrev Fit : Type 0
  Fit = (length input ≤ INPUT_BYTES) × (length out ≡ SHEET_BYTES)

  module _ {C : Type 0} (yes-so : Fit → C) (no-so : ¬ Fit → C) where
    by_lengths : C
    by_lengths =
        by_cases (dec_le (length input) INPUT_BYTES)
        (λ (a : length input ≤ INPUT_BYTES). by_cases (ℕ_discrete (length out) SHEET_BYTES) (λ (b : length out ≡ SHEET_BYTES). yes-so (a, b)) (λ (b : ¬ (length out ≡ SHEET_BYTES)). no-so (λ f. b f.1)))
        (λ (a : ¬ (length input ≤ INPUT_BYTES)). no-so (λ f. a f.0))

  -- an outcome is there
  some_answer : (a : Result Counts Refusal) (tables : Tables) → sheet_reading input ≡ record { answer = a; tables = tables } → (o : Result Resent Refusal × List ℕ) × ByAnswer input a tables out o.0 o.1
  some_answer (Err x) tables e = ((Err x, out), (refl, refl))
  some_answer (Ok n) tables e =
      let w : Writes (rules n tables.periodics tables.triggers) ordered = read_writes sheet _ _ n tables.periodics tables.triggers e in (
        (Ok (record { length = length (joined ordered); from = length sheet }), joined ordered ++ drop (length (joined ordered)) out),
        record { resent = record { length = length (joined ordered); from = length sheet }; answer = refl; front = record { sent = ordered; writes = w; size = refl; buffer = refl }; from = refl },
      )

  some_outcome : (o : Result Resent Refusal × List ℕ) × ResendOutcome input out o.0 o.1
  some_outcome =
      by_lengths
      (λ f. let s = some_answer (sheet_reading input).answer (sheet_reading input).tables refl in (s.0, record { fits = λ a b. s.1; unfit = λ n. absurd (n f) }))
      (λ n. ((Err (refusal Length 0), out), record { fits = λ a b. absurd (n (a, b)); unfit = λ m. (refl, refl) }))

  pub resend_total : ExactlyOne (λ (o : Result Resent Refusal × List ℕ). ResendOutcome input out o.0 o.1)
  resend_total =
      let s = some_outcome in
      (s.0, s.1, λ o x. let e = resend_exact input out o.0 s.0.0 o.1 s.0.1 x s.1 in λ i. (e.0 i, e.1 i))

  module _ (r : Result Resent Refusal) (out' : List ℕ) (o : ResendOutcome input out r out') where
    -- ---- a refusal

    kept_if : (a : Result Counts Refusal) (tables : Tables) → ByAnswer input a tables out r out' → (x : Refusal) → r ≡ Err x → out' ≡ out
    kept_if (Err y) tables f x e = f.1
    kept_if (Ok n) tables f x e = absurd (let q : Ok f.resent ≡ Err x = sym f.answer ∙ e in let z : ◌≡◌ {A = ℕ} 0 1 = cc in omega arith)

    keeps : (x : Refusal) → r ≡ Err x → out' ≡ out
    keeps x e = by_lengths (λ f. kept_if (sheet_reading input).answer (sheet_reading input).tables (o.fits f.0 f.1) x e) (λ n. (o.unfit n).1)

    pub resend_length : ¬ Fit → answered (verdict_of r) ≡ record { number = 1; place = 0; column = 0 }
    resend_length n = ap (λ (z : Result Resent Refusal). answered (verdict_of z)) (o.unfit n).0

    same_verdict : (a : Result Counts Refusal) (tables : Tables) → ByAnswer input a tables out r out' → verdict_of r ≡ verdict_of a
    same_verdict (Err y) tables f = ap verdict_of f.0
    same_verdict (Ok n) tables f = ap verdict_of f.answer

    -- with the lengths right the verdict is the reader's
    pub resend_verdict : Fit → verdict_of r ≡ verdict_of (sheet_reading input).answer
    resend_verdict f = same_verdict (sheet_reading input).answer (sheet_reading input).tables (o.fits f.0 f.1)

  pub resend_keeps : (x : Refusal) (out' : List ℕ) → ResendOutcome input out (Err x) out' → out' ≡ out
  resend_keeps x out' o = keeps (Err x) out' o x refl

  module _ (s : Resent) (out' : List ℕ) (o : ResendOutcome input out (Ok s) out') where
    -- ---- and what is written

    abbrev Written : Type 0
    Written = (take s.length out' ≡ joined ordered) × (drop s.from input ≡ tape_part input) × (PeriodicsFirst (lines_in sheet) → joined ordered ≡ sheet)
        × ((drop s.length out' ≡ drop s.length out) × (length out' ≡ length out))

    by_answer : (a : Result Counts Refusal) (tables : Tables) → length out ≡ SHEET_BYTES → sheet_reading input ≡ record { answer = a; tables = tables } → ByAnswer input a tables out (Ok s) out' → Written
    by_answer (Err y) tables fit e f = no_pass y (sym (ap verdict_of f.0))
    by_answer (Ok n) tables fit e f =
        let bytes : length sheet ≡ sheet_bytes (lines input) = length-take-le (sheet_bytes (lines input)) input (sheet_bytes_le input) in
        let q : s ≡ f.resent = ok_same s f.resent f.answer in
        let front : AtFront (rules n tables.periodics tables.triggers) out s.length out' =
        subst (λ (z : Resent). AtFront (rules n tables.periodics tables.triggers) out z.length out') (sym q) f.front in (
          front_order sheet _ _ n tables.periodics tables.triggers e out s.length out' front,
          ap (λ (k : ℕ). drop k input) (ap (λ (z : Resent). z.from) q ∙ f.from ∙ bytes),
          order_same sheet _ _ n tables.periodics tables.triggers e,
          front_stays (rules n tables.periodics tables.triggers) (reading_good sheet _ _ n tables.periodics tables.triggers e).0 out fit s.length out' front,
        )

    written : Written
    written =
        by_lengths
        (λ f. by_answer (sheet_reading input).answer (sheet_reading input).tables f.1 refl (o.fits f.0 f.1))
        (λ n. no_pass (refusal Length 0) (sym (ap verdict_of (o.unfit n).0)))

    pub resend_writes : (take s.length out' ≡ joined ordered) × (drop s.from input ≡ tape_part input)
    resend_writes = let w = written in (w.0, w.1)

    pub resend_same : PeriodicsFirst (lines_in sheet) → take s.length out' ≡ sheet
    resend_same first = let w = written in w.0 ∙ w.2 first

    pub resend_stays : (drop s.length out' ≡ drop s.length out) × (length out' ≡ length out)
    resend_stays = written.3

-- ---- the reader is complete

pub reader_complete : (sh : Sheet) → GoodOrder sh → NoLoop sh → (p t : List ℕ) → length p ≡ PERIODIC_TABLE → length t ≡ TRIGGER_TABLE
    → (sheet : List ℕ) × (R : Rules) × (reading sheet p t ≡ read_outcome (Ok R.counts) R.tables.periodics R.tables.triggers) × SameUsed sh (sheet_in R)
reader_complete sh good loopless p t a b =
    let R : Rules = said sh in
    let fine : GoodOrder (sheet_in R) = said_good sh good in
    let per = said_periodic_bytes sh in
    let trg = said_trigger_bytes sh in
    let ls = made R fine per trg in
    let x = made_writes R fine per trg in
    let sizes = said_lengths sh in (
      joined ls,
      handed R fine ls x,
      written_reads R fine (said_loopless sh good loopless) sizes ls x p t a b,
      used_on sh (sheet_in R) (sheet_in (handed R fine ls x)) (said_same sh good) (written_same R fine ls x sizes.0 sizes.1),
    )

-- ---- the worked sheet is in table order

pub worked_in_order : joined (in_table_order (lines_in worked_sheet)) ≡ worked_sheet
unfolding byte_count up_to_end begins_end value
worked_in_order = refl
