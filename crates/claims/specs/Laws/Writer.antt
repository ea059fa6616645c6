-- The writer's answers: LENGTH where something lent has not its length; else what the judge of the tables says. And there is an outcome for any tables of bytes.
-- Assumes nothing.
use Rattle.std.specs.Prelude.{◌≡◌, ◌↔◌, Bool, true, false, ◌&&◌, List, [], ◌++◌, leb, get_or, drop, Err, Ok, Result}
use Rattle.std.proofs.Math.Path.{refl, sym, ap}
use Rattle.std.proofs.Common.{◌∙◌, subst, ⊎_elim}
use Rattle.std.proofs.Math.Logic.{by_cases}
use Rattle.std.proofs.Math.Bool.{not}
use Prim.Native.Nat.{ℕ, ◌+◌, ◌*◌, ◌≤◌, ◌<◌}
use Rattle.std.proofs.Math.Decide.{dec_lt}
use native.Mathlib.Omega.{arith}
use Rattle.std.proofs.Math.Dec.{eqb}
use Rattle.std.proofs.Math.ListN.{length, get_or-eq_default}
use borrow.Author.Tests.{eqb-true, eq-eqb, le-leb, le-ltb}
use Rattle.theory.specs.Numbers.{ROLES, EVENTS, LAST_INSTANT, PERIODIC_ROWS, TRIGGER_ROWS, REQUESTS, SHEET_BYTES, WAITING_NUMBERS}
use Rattle.theory.specs.Below.{ExactlyOne}
use Rattle.theory.specs.Sheet.{Sheet, GoodOrder}
use Rattle.theory.specs.Graph.{NoLoop, LoopAt}
use Rattle.theory.proofs.Laws.Tests.{test, and_left, and_right, and_both, not_both, is_false}
use Rattle.theory.proofs.Laws.First.{first_is}
use Rattle.answers.specs.declared.Name.{Name}
use Rattle.answers.specs.declared.Name.TheVariants.{Length, Frame, Check, Kind, Field, TooMany, Count, Loop, Request, Last}
use Rattle.answers.specs.declared.Answer.{Answer}
use Rattle.answers.specs.declared.Refusal.{Refusal}
use Rattle.answers.specs.Answers.{answered, refusal, refuse, and_then, verdict_of, Verdict, pass}
use Rattle.answers.proofs.Laws.{verdict_cases}
use Rattle.tables.specs.declared.Counts.{Counts}
use Rattle.tables.specs.Layout.{PERIODIC_BYTES, TRIGGER_BYTES, PERIODIC_TABLE, TRIGGER_TABLE, byte_at, trigger_from, trigger_at}
use Rattle.tables.specs.Used.{UsedByte, SameRules}
use Rattle.tables.specs.Buffers.{Narrow}
use Rattle.tables.specs.Asked.{Asked}
use Rattle.tables.specs.Lent.{Rules, sheet_in, Lent}
use Rattle.table_judge.specs.Judge.{judge_tables}
use Rattle.row_judge.specs.Judge.{few_rows, roles_fit, row_count, row_fits, first_unfit, judge_rows}
use Rattle.row_judge.proofs.Laws.{limits_say, rows_many, rows_roles, rows_unfit}
use Rattle.table_judge.specs.Says.{FewRows, RolesFit, UnfitAt, RefusalSays, Says}
use Rattle.table_judge.proofs.Laws.{judge_says, judge_refuses_not, judge_finds}
use Rattle.table_judge.proofs.Laws.Answer.{tables_refused}
use Rattle.line_by_line.specs.Lines.{joined}
use Rattle.writer.specs.Outcome.{Writes, write_lengths_fit, judge_writing, WriteOutcome}
use Rattle.requests.specs.Requests.{first_outside, judge_requests}
use Rattle.step_tests.specs.Order.{exact_lengths}
use Rattle.step.specs.Outcome.{lengths_fit, judge_step, Outcome}
use Rattle.step.proofs.Laws.Used.{tables_used}
use Rattle.writer.specs.RowLines.{HeaderLine, PeriodicLine, TriggerLine, EndLine}
use Rattle.writer.proofs.Laws.Exact.{passes_say, passes_good, write_exact}
use Rattle.round_trips.proofs.Laws.Lengths.{front_stays}
use Rattle.writer.proofs.Laws.Writes.{made, made_writes}
use Rattle.claims.specs.Words.{WriteLengths}
use Rattle.claims.specs.Laws.Numbers.{answered_once}

-- ---- LENGTH

module _ (R : Rules) (out : List ℕ) where
  abbrev p : ℕ
  p = length R.tables.periodics

  abbrev t : ℕ
  t = length R.tables.triggers

  -- as it is tested
  abbrev fit : Bool
  fit = write_lengths_fit p t (length out)

  fits_say : fit ≡ true → WriteLengths R out
  unfolding write_lengths_fit
  fits_say h =
      let g = and_right (eqb p PERIODIC_TABLE) (eqb t TRIGGER_TABLE && eqb (length out) SHEET_BYTES) h in
      record {
        periodics = eqb-true p PERIODIC_TABLE (and_left (eqb p PERIODIC_TABLE) (eqb t TRIGGER_TABLE && eqb (length out) SHEET_BYTES) h);
        triggers = eqb-true t TRIGGER_TABLE (and_left (eqb t TRIGGER_TABLE) (eqb (length out) SHEET_BYTES) g);
        buffer = eqb-true (length out) SHEET_BYTES (and_right (eqb t TRIGGER_TABLE) (eqb (length out) SHEET_BYTES) g);
      }

  so_fits : WriteLengths R out → fit ≡ true
  unfolding write_lengths_fit
  so_fits w = rw (eq-eqb _ _ w.periodics, eq-eqb _ _ w.triggers, eq-eqb _ _ w.buffer) refl

  judged_tables : WriteLengths R out → judge_writing R (length out) ≡ judge_tables (sheet_in R)
  unfolding judge_writing
  judged_tables w = rw (so_fits w)

  judged_length : ¬ WriteLengths R out → judge_writing R (length out) ≡ refuse Length 0
  unfolding judge_writing
  judged_length n = rw (is_false fit (λ h. n (fits_say h)))

-- ---- what the judge says holds of one verdict

module _ (sh : Sheet) where
  few_so : FewRows sh → few_rows sh ≡ true
  unfolding few_rows
  few_so f = and_both (le-leb _ _ f.0) (le-leb _ _ f.1)

  few_not : ¬ FewRows sh → few_rows sh ≡ false
  unfolding few_rows
  few_not n = is_false (few_rows sh) (λ h. n (limits_say sh.periodic_count PERIODIC_ROWS sh.trigger_count TRIGGER_ROWS h))

  roles_so : RolesFit sh → roles_fit sh ≡ true
  unfolding roles_fit
  roles_so f = and_both (le-leb _ _ f.0) (le-leb _ _ f.1)

  roles_not : ¬ RolesFit sh → roles_fit sh ≡ false
  unfolding roles_fit
  roles_not n = is_false (roles_fit sh) (λ h. n (limits_say 1 sh.role_count sh.role_count ROLES h))

  first_unfit_lem : (k : ℕ) → UnfitAt sh k → k ≡ first_unfit sh
  unfolding first_unfit
  first_unfit_lem k u = sym (first_is (row_count sh) (λ j. not (row_fits sh j)) k u.row (ap not u.unfit) (λ j l. ap not (u.first j l)))

  -- a refusal for what it says is the judge's
  from_rows : (name : Name) (k : ℕ) → refuse name k ≡ judge_rows sh → refuse name k ≡ judge_tables sh
  from_rows name k e = sym (tables_refused sh (refusal name k) (sym e))

  refusal_judged : (name : Name) (k : ℕ) → RefusalSays sh name k → refuse name k ≡ judge_tables sh
  refusal_judged TooMany k s = ap (refuse TooMany) s.0 ∙ from_rows TooMany 0 (rows_many sh (few_rows sh) refl (few_not s.1))
  refusal_judged Field k s =
      let few : few_rows sh ≡ true = few_so s.0 in
      ⊎_elim
      (λ (a : (k ≡ 0) × (RolesFit sh → ⊥)). ap (refuse Field) a.0 ∙ from_rows Field 0 (rows_roles sh (few_rows sh) refl (roles_fit sh) refl few (roles_not a.1)))
      (λ (b : RolesFit sh × UnfitAt sh k). from_rows Field k (rows_unfit sh (few_rows sh) refl (roles_fit sh) refl few (roles_so b.0) k (first_unfit_lem k b.1) b.1.row))
      s.1
  refusal_judged Loop k s = sym (judge_finds sh s.0 k s.1)
  refusal_judged Length k s = absurd s
  refusal_judged Frame k s = absurd s
  refusal_judged Check k s = absurd s
  refusal_judged Kind k s = absurd s
  refusal_judged Count k s = absurd s
  refusal_judged Request k s = absurd s
  refusal_judged Last k s = absurd s

  says_judged : (v : Verdict) → Says sh v → v ≡ judge_tables sh
  says_judged (Ok tt) s = sym (judge_refuses_not sh s.0 s.1)
  says_judged (Err x) s = (λ i. Err (record { name = x.name; place = x.place; column = s.1 i })) ∙ refusal_judged x.name x.place s.0

  pub says_one : (v : Verdict) → Says sh v ↔ (v ≡ judge_tables sh)
  says_one v = (says_judged v, (λ e. subst (Says sh) (sym e) (judge_says sh)))

-- ---- the answers

module _ (R : Rules) (out : List ℕ) (r : Result ℕ Refusal) (out' : List ℕ) (o : WriteOutcome R out r out') where
  pub writer_length : ¬ WriteLengths R out → answered (verdict_of r) ≡ record { number = 1; place = 0; column = 0 }
  writer_length n = ap answered (o.verdict ∙ judged_length R out n)

  pub writer_says : WriteLengths R out → (v : Verdict) → Says (sheet_in R) v ↔ (v ≡ verdict_of r)
  writer_says w v =
      let e : verdict_of r ≡ judge_tables (sheet_in R) = o.verdict ∙ judged_tables R out w in
      ((λ s. (says_one (sheet_in R) v).0 s ∙ sym e), (λ f. (says_one (sheet_in R) v).1 (f ∙ e)))

  pub writer_ok : (answered (verdict_of r) ≡ record { number = 0; place = 0; column = 0 }) ↔ (WriteLengths R out × GoodOrder (sheet_in R) × NoLoop (sheet_in R))
  writer_ok = (
    (λ h.
        let e : judge_writing R (length out) ≡ pass = sym o.verdict ∙ answered_once (verdict_of r) pass h in
        let s = passes_say R (length out) e in
        let g = passes_good R (length out) e in
        (record { periodics = s.periodic_bytes; triggers = s.trigger_bytes; buffer = s.buffer }, g.0, g.1)),
    (λ x. ap answered (o.verdict ∙ judged_tables R out x.0 ∙ judge_refuses_not (sheet_in R) x.1 x.2)),
  )

  pub writer_loops : (k : ℕ) → (answered (verdict_of r) ≡ record { number = 8; place = k; column = 0 }) ↔ (WriteLengths R out × GoodOrder (sheet_in R) × LoopAt (sheet_in R) k)
  writer_loops k = (
    (λ h.
        let e : verdict_of r ≡ refuse Loop k = answered_once (verdict_of r) (refuse Loop k) h in
        ⊎_elim
        (λ (f : fit R out ≡ true).
        let w : WriteLengths R out = fits_say R out f in
        let s : Says (sheet_in R) (refuse Loop k) = (writer_says w (refuse Loop k)).1 (sym e) in
        (w, s.0.0, s.0.1))
        (λ (f : fit R out ≡ false).
        let n : answered (verdict_of r) ≡ record { number = 1; place = 0; column = 0 } = writer_length (λ w. not_both (so_fits R out w) f) in
        let z : ◌≡◌ {A = ℕ} 1 8 = ap (λ (a : Answer). a.number) (sym n ∙ h) in
        absurd (omega arith))
        (test (fit R out))),
    (λ x. ap answered (o.verdict ∙ judged_tables R out x.0 ∙ judge_finds (sheet_in R) x.1 k x.2)),
  )

-- ---- as in a step

then_pass : (v : Verdict) → and_then v pass ≡ v
unfolding and_then
then_pass (Ok tt) = refl
then_pass (Err x) = refl

-- a step that meets nothing else asks the same: no requests, an instant that is not above the last, and buffers of their lengths
pub writer_as_step : (R : Rules) (out : List ℕ) (r : Result ℕ Refusal) (out' : List ℕ) → WriteOutcome R out r out' → WriteLengths R out
    → (q : Asked) → q.count ≡ 0 → (l : Lent) → length l.waiting ≡ WAITING_NUMBERS → length l.events ≡ EVENTS → l.instant ≤ LAST_INSTANT
    → (v : Verdict) (a : Lent) → Outcome R q l v a → verdict_of r ≡ v
unfolding judge_step lengths_fit exact_lengths judge_requests
writer_as_step R out r out' o w q none l waits events served v a s =
    let few : leb q.count REQUESTS ≡ true = le-leb q.count REQUESTS (omega arith) in
    let no-request : judge_requests R.counts.roles q ≡ pass = rw (le-ltb (first_outside R.counts.roles q) q.count (omega arith)) in
    let e : judge_step R q l ≡ and_then (judge_tables (sheet_in R)) (judge_requests R.counts.roles q) =
    rw (eq-eqb _ _ w.periodics, eq-eqb _ _ w.triggers, eq-eqb _ _ waits, eq-eqb _ _ events, le-leb l.instant LAST_INSTANT served, few) in
    o.verdict
    ∙ judged_tables R out w
    ∙ sym (s.judged ∙ e ∙ ap (and_then (judge_tables (sheet_in R))) no-request ∙ then_pass (judge_tables (sheet_in R)))

-- ---- an outcome is there

-- bytes of a list, and past its end
bytes_of : (l : List ℕ) → Narrow 8 l → (k : ℕ) → byte_at l k < 256
bytes_of l h k = by_cases (dec_lt k (length l)) (λ (b : k < length l). h k b) (λ (b : ¬ (k < length l)). omega (arith, get_or-eq_default l 0 {n = k} (omega arith)))

pub writer_total : (R : Rules) (out : List ℕ) → Narrow 8 R.tables.periodics → Narrow 8 R.tables.triggers → ExactlyOne (λ (o : Result ℕ Refusal × List ℕ). WriteOutcome R out o.0 o.1)
writer_total R out per trg =
    ⊎_elim
    (λ (e : judge_writing R (length out) ≡ pass).
    let good = (passes_good R (length out) e).0 in
    let p = bytes_of R.tables.periodics per in
    let t = bytes_of R.tables.triggers trg in
    let ls = made R good p t in
    one
    (Ok (length (joined ls)))
    (joined ls ++ drop (length (joined ls)) out)
    (record {
      verdict = sym e;
      passed = λ n h. record { sent = ls; writes = made_writes R good p t; size = sym (let q : length (joined ls) ≡ n = cc in q); buffer = refl };
      refused = λ x h. absurd (let z : ◌≡◌ {A = ℕ} 0 1 = cc h in omega arith);
    }))
    (λ (e : (x : Refusal) × (judge_writing R (length out) ≡ Err x)).
    one (Err e.0) out
    (record { verdict = sym e.1; passed = λ n h. absurd (let z : ◌≡◌ {A = ℕ} 0 1 = cc h in omega arith); refused = λ x h. refl }))
    (verdict_cases (judge_writing R (length out)))
  where
    one : (r : Result ℕ Refusal) (out' : List ℕ) → WriteOutcome R out r out' → ExactlyOne (λ (o : Result ℕ Refusal × List ℕ). WriteOutcome R out o.0 o.1)
    one r out' w = ((r, out'), w, λ o x. let s = write_exact R out o.0 r o.1 out' x w in λ i. (s.0 i, s.1 i))

-- ---- what lies past stays, and unused rows and places are ignored

-- what stands behind the written bytes
pub writer_stays : (R : Rules) (out : List ℕ) (n : ℕ) (out' : List ℕ) → WriteOutcome R out (Ok n) out' → (drop n out' ≡ drop n out) × (length out' ≡ length out)
writer_stays R out n out' o = front_stays R (passes_good R (length out) e).0 out (passes_say R (length out) e).buffer n out' (o.passed n refl)
  where
    e : judge_writing R (length out) ≡ pass
    e = sym o.verdict

-- a line that says a row says the same row of tables that are the same in all that is used
module _ (R R' : Rules) (s : SameRules R R') where
  periodic_line_lem : (i : ℕ) (l : List ℕ) → i < R.counts.periodics → PeriodicLine R.tables.periodics i l → PeriodicLine R'.tables.periodics i l
  periodic_line_lem i l b x = record { good = x.good; row = λ k h. x.row k h ∙ s.periodics.bytes (PERIODIC_BYTES * i + k) (omega arith) }

  trigger_line_lem : (i : ℕ) (l : List ℕ) → i < R.counts.triggers → TriggerLine R.tables.triggers i l → TriggerLine R'.tables.triggers i l
  unfolding trigger_from
  trigger_line_lem i l b x =
      let at : ℕ = TRIGGER_BYTES * i in
      let z : at + 0 ≡ at = omega arith in
      let a : byte_at R.tables.triggers at ≡ byte_at R'.tables.triggers at = rw z at (s.triggers.bytes i 0 b (omega arith) ((λ u v. absurd (omega arith)), (λ u v. absurd (omega arith)))) in
      let c : byte_at R.tables.triggers (at + 1) ≡ byte_at R'.tables.triggers (at + 1) = s.triggers.bytes i 1 b (omega arith) ((λ u v. absurd (omega arith)), (λ u v. absurd (omega arith))) in
      record {
        good = x.good;
        row = λ k h u.
            let w : UsedByte (trigger_at R.tables.triggers i) k = ((λ m n. omega (arith, u.0 m n, a)), (λ m n. omega (arith, u.1 m n, c))) in
            x.row k h w ∙ s.triggers.bytes i k b h w;
      }

  same_writes : (ls : List (List ℕ)) → Writes R ls → Writes R' ls
  same_writes ls x =
      let e : R.counts ≡ R'.counts = s.counts in
      record {
        header = x.header;
        periodics = x.periodics;
        triggers = x.triggers;
        end = x.end;
        lines = x.lines;
        is_header = subst (λ (n : Counts). HeaderLine n.roles x.header) e x.is_header;
        periodic_count = x.periodic_count ∙ ap (λ (n : Counts). n.periodics) e;
        each_periodic = λ i l. let b : i < R.counts.periodics = subst (λ (n : Counts). i < n.periodics) (sym e) l in periodic_line_lem i (get_or x.periodics i []) b (x.each_periodic i b);
        trigger_count = x.trigger_count ∙ ap (λ (n : Counts). n.triggers) e;
        each_trigger = λ i l. let b : i < R.counts.triggers = subst (λ (n : Counts). i < n.triggers) (sym e) l in trigger_line_lem i (get_or x.triggers i []) b (x.each_trigger i b);
        is_end = subst (λ (n : Counts). EndLine n.periodics n.triggers x.end) e x.is_end;
      }

  same_judged : (n : ℕ) → judge_writing R n ≡ judge_writing R' n
  unfolding judge_writing
  same_judged n =
      let f : (a b : ℕ) → a ≡ length R'.tables.periodics → b ≡ length R'.tables.triggers → write_lengths_fit a b n ≡ write_lengths_fit (length R'.tables.periodics) (length R'.tables.triggers) n = λ a b p q i. write_lengths_fit (p i) (q i) n in
      rw (f _ _ s.periodics.size s.triggers.size, tables_used R R' s)

  pub writer_used : (out : List ℕ) (r r' : Result ℕ Refusal) (out' out'' : List ℕ) → WriteOutcome R out r out' → WriteOutcome R' out r' out'' → (r ≡ r') × (out' ≡ out'')
  writer_used out r r' out' out'' x y =
      write_exact R' out r r' out' out''
      (record {
        verdict = x.verdict ∙ same_judged (length out);
        passed = λ n p. let f = x.passed n p in record { sent = f.sent; writes = same_writes f.sent f.writes; size = f.size; buffer = f.buffer };
        refused = x.refused;
      })
      y
