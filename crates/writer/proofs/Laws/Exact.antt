-- What the writer gives is one outcome, and it is there for any tables of bytes. The verdict says which of the two parts of the outcome counts.
-- Assumes nothing.
use Rattle.std.specs.Prelude.{◌≡◌, refl, true, false, ◌&&◌, List, ◌++◌, ℕ, ◌<◌, eqb, length, drop, Err, Ok, Result}
use Rattle.std.proofs.Common.{sym, ap, ◌∙◌, ⊎_elim, arith, eqb-true, eq-eqb}
use Rattle.theory.specs.Numbers.{SHEET_BYTES}
use Rattle.theory.specs.Sheet.{GoodOrder}
use Rattle.theory.specs.Graph.{NoLoop}
use Rattle.theory.proofs.Laws.Tests.{test, and_left, and_right}
use Rattle.answers.specs.declared.Refusal.{Refusal}
use Rattle.tables.specs.Layout.{PERIODIC_TABLE, TRIGGER_TABLE, byte_at}
use Rattle.tables.specs.Lent.{Rules, sheet_in}
use Rattle.table_judge.specs.Judge.{judge_tables}
use Rattle.table_judge.proofs.Laws.{judge_passes}
use Rattle.line_by_line.specs.Lines.{joined}
use Rattle.writer.specs.Outcome.{AtFront, WriteOutcome, write_lengths_fit, judge_writing}
use Rattle.writer.specs.Made.{sheet_text, Puts}
use Rattle.writer.proofs.Laws.Puts.{puts_front}
use Rattle.writer.proofs.Laws.Writes.{made, made_writes, made_joined, writes_one}
use Rattle.answers.specs.Answers.{Verdict, pass}
use Rattle.answers.proofs.Laws.{no_pass, refused_same}

-- ---- what a pass says

pub record Passes (R : Rules) (out : ℕ) : Type 0 where
  pub periodic_bytes : length R.tables.periodics ≡ PERIODIC_TABLE
  pub trigger_bytes : length R.tables.triggers ≡ TRIGGER_TABLE
  pub buffer : out ≡ SHEET_BYTES
  pub tables : judge_tables (sheet_in R) ≡ pass

pub passes_say : (R : Rules) (out : ℕ) → judge_writing R out ≡ pass → Passes R out
unfolding judge_writing write_lengths_fit
passes_say R out h =
    let p : ℕ = length R.tables.periodics in
    let t : ℕ = length R.tables.triggers in
    ⊎_elim
    (λ (f : (eqb p PERIODIC_TABLE && (eqb t TRIGGER_TABLE && eqb out SHEET_BYTES)) ≡ true).
    let g = and_right (eqb p PERIODIC_TABLE) (eqb t TRIGGER_TABLE && eqb out SHEET_BYTES) f in
    record {
      periodic_bytes = eqb-true p PERIODIC_TABLE (and_left (eqb p PERIODIC_TABLE) (eqb t TRIGGER_TABLE && eqb out SHEET_BYTES) f);
      trigger_bytes = eqb-true t TRIGGER_TABLE (and_left (eqb t TRIGGER_TABLE) (eqb out SHEET_BYTES) g);
      buffer = eqb-true out SHEET_BYTES (and_right (eqb t TRIGGER_TABLE) (eqb out SHEET_BYTES) g);
      tables = rw f at h;
    })
    (λ (f : (eqb p PERIODIC_TABLE && (eqb t TRIGGER_TABLE && eqb out SHEET_BYTES)) ≡ false).
    absurd (let w = rw f at h in let z : ◌≡◌ {A = ℕ} 0 1 = cc w in omega arith))
    (test (eqb p PERIODIC_TABLE && (eqb t TRIGGER_TABLE && eqb out SHEET_BYTES)))

pub passes_so : (R : Rules) (out : ℕ) → Passes R out → judge_writing R out ≡ pass
unfolding judge_writing write_lengths_fit
passes_so R out x = rw (eq-eqb _ _ x.periodic_bytes, eq-eqb _ _ x.trigger_bytes, eq-eqb _ _ x.buffer) x.tables

pub passes_good : (R : Rules) (out : ℕ) → judge_writing R out ≡ pass → GoodOrder (sheet_in R) × NoLoop (sheet_in R)
passes_good R out h = judge_passes (sheet_in R) (passes_say R out h).tables

-- ---- the code's outcome

module _ (R : Rules) (out : List ℕ) (v : Verdict) (is : v ≡ judge_writing R (length out)) where
  pub was_refused : (x : Refusal) → v ≡ Err x → WriteOutcome R out (Err x) out
  was_refused x e =
      record {
        verdict = sym e ∙ is;
        passed = λ n p. absurd (let z : ◌≡◌ {A = ℕ} 0 1 = cc p in omega arith);
        refused = λ y h. refl;
      }

  pub was_passed : v ≡ pass → ((k : ℕ) → byte_at R.tables.periodics k < 256) → ((k : ℕ) → byte_at R.tables.triggers k < 256)
      → (out' : List ℕ) (n : ℕ) → Puts out 0 (sheet_text R) out' n → WriteOutcome R out (Ok n) out'
  was_passed e per trg out' n x =
      let good : GoodOrder (sheet_in R) = (passes_good R (length out) (sym is ∙ e)).0 in
      let j : joined (made R good per trg) ≡ sheet_text R = made_joined R good per trg in
      record {
        verdict = sym e ∙ is;
        passed = λ m p.
            let q : n ≡ m = cc in
            record {
              sent = made R good per trg;
              writes = made_writes R good per trg;
              size = omega (arith, x.place, ap length j, q);
              buffer = puts_front out (sheet_text R) out' n x ∙ ap (λ (s : List ℕ). s ++ drop (length s) out) (sym j);
            };
        refused = λ y h. absurd (let z : ◌≡◌ {A = ℕ} 0 1 = cc h in omega arith);
      }

-- ---- two outcomes are equal

-- a sheet in good order stands at the front of the buffer in one way
pub front_one : (R : Rules) → GoodOrder (sheet_in R) → (out : List ℕ) (n n' : ℕ) (out' out'' : List ℕ) → AtFront R out n out' → AtFront R out n' out'' → (n ≡ n') × (out' ≡ out'')
front_one R good out n n' out' out'' f g =
    let s : f.sent ≡ g.sent = writes_one R good f.sent g.sent f.writes g.writes in (
      f.size ∙ ap (λ (ls : List (List ℕ)). length (joined ls)) s ∙ sym g.size,
      f.buffer ∙ ap (λ (ls : List (List ℕ)). joined ls ++ drop (length (joined ls)) out) s ∙ sym g.buffer,
    )

-- THE THEOREM
pub write_exact : (R : Rules) (out : List ℕ) (r r' : Result ℕ Refusal) (out' out'' : List ℕ) → WriteOutcome R out r out' → WriteOutcome R out r' out'' → (r ≡ r') × (out' ≡ out'')
write_exact R out (Ok n) (Ok n') out' out'' x y =
    let f = front_one R (passes_good R (length out) (sym x.verdict)).0 out n n' out' out'' (x.passed n refl) (y.passed n' refl) in
    (ap Ok f.0, f.1)
write_exact R out (Ok n) (Err b) out' out'' x y = no_pass b (y.verdict ∙ sym x.verdict)
write_exact R out (Err a) (Ok n) out' out'' x y = no_pass a (x.verdict ∙ sym y.verdict)
write_exact R out (Err a) (Err b) out' out'' x y = (ap Err (refused_same a b (x.verdict ∙ sym y.verdict)), x.refused a refl ∙ sym (y.refused b refl))
