-- What the code's own opening says: the input's opening, and that it is a good input.
-- Assumes nothing.
use Rattle.std.specs.Prelude.{◌≡◌, true, false, List, ℕ, ◌≤◌, length, drop, replicate, Err, Ok, Result}
use Rattle.std.proofs.Math.Path.{refl, sym, ap, subst}
use Rattle.std.proofs.Common.{◌∙◌, arith}
use Rattle.std.proofs.Math.Logic.{⊎_elim}
use Rattle.std.proofs.Math.Dec.{leb}
use Rattle.theory.proofs.Laws.Tests.{test}
use Rattle.answers.specs.declared.Name.TheVariants.{Length}
use Rattle.answers.specs.declared.Refusal.{Refusal}
use Rattle.answers.specs.Answers.{refusal}
use Rattle.text.specs.Lines.{lines}
use Rattle.tables.specs.declared.Counts.{Counts}
use Rattle.tables.specs.Layout.{PERIODIC_TABLE, TRIGGER_TABLE}
use Rattle.tables.specs.Lent.{tables_of, rules, sheet_in}
use Rattle.line_readers.specs.Walks.{Going, goes, refused}
use Rattle.reader.specs.Out.{ReadOutcome, read_outcome}
use Rattle.day_split.specs.Split.{sheet_bytes, sheet_lines, sheet_part, tape_part}
use Rattle.day_split.proofs.Laws.Parts.{sheet_bytes_le}
use Rattle.tape_tests.specs.declared.Heard.{Heard}
use Rattle.tape_tests.specs.Tests.{LONGEST_DAY, last_instant}
use Rattle.tape.specs.Tape.{tape_read, unheard}
use Rattle.tape.specs.Laws.Fine.{accepted_last}
use Rattle.day_input.specs.declared.Plan.{Plan}
use Rattle.day_input.specs.Opening.{INPUT_BYTES, refused, after_tape, after_sheet, sheet_reading, opening}
use Rattle.day_input.specs.Planned.{Planned, opened, by_heard, by_tape, by_sheet, by_reading, planned, opening_of}
use Rattle.day_run.specs.Run.{GoodInput}
use Rattle.day_run.specs.Laws.Good.{good_input}

-- what an input that opens has
pub record OpensTo (input : List ℕ) (plan : Plan) (p t : List ℕ) : Type 0 where
  pub good : GoodInput (rules plan.counts p t) (drop plan.from input)
  pub last : plan.last ≤ LONGEST_DAY
  pub inside : plan.from ≤ length input
  pub opens_it : opening input ≡ opening_of plan p t (drop plan.from input)

-- an answer that opens is no refusal
opens_not : {C : Type 0} (plan : Plan) (x : Refusal) → Ok plan ≡ Err x → C
opens_not plan x e = absurd (let z : ◌≡◌ {A = ℕ} 0 1 = cc in omega arith)

module _ (input p t : List ℕ) where
  abbrev heard : Counts → Going Heard
  heard counts = tape_read counts.roles (sheet_lines (lines input)) (tape_part input)

  -- the reading of its sheet
  Reads : Result Counts Refusal → Type 0
  Reads a = sheet_reading input ≡ read_outcome a p t

  within : leb (length input) INPUT_BYTES ≡ true → opening input ≡ after_sheet input (sheet_reading input).answer (sheet_reading input).tables
  unfolding opening
  within w = rw w refl

  by_sheet_lem : leb (length input) INPUT_BYTES ≡ true → (a : Result Counts Refusal) → Reads a → opening input ≡ after_sheet input a (tables_of p t)
  unfolding Reads
  by_sheet_lem w a e = within w ∙ ap (λ (o : ReadOutcome). after_sheet input o.answer o.tables) e

  module _ (w : leb (length input) INPUT_BYTES ≡ true) (counts : Counts) (e : Reads (Ok counts)) where
    -- by what came of the tape
    by_tape_lem : (g : Going Heard) → heard counts ≡ g → opening input ≡ after_tape (sheet_in (rules counts p t)) (lines (tape_part input)) g
    unfolding after_sheet
    by_tape_lem g h = by_sheet_lem w (Ok counts) e ∙ ap (after_tape (sheet_in (rules counts p t)) (lines (tape_part input))) h

    goes_to : (s : Heard) → heard counts ≡ goes s → OpensTo input (record { counts = counts; from = sheet_bytes (lines input); last = last_instant s }) p t
    unfolding after_tape Reads
    goes_to s h =
        record {
          good = good_input (sheet_part input) (replicate PERIODIC_TABLE 0) (replicate TRIGGER_TABLE 0) counts p t e (sheet_lines (lines input)) (tape_part input) s h;
          last = accepted_last counts.roles s (unheard (sheet_lines (lines input))) (lines (tape_part input)) refl h;
          inside = sheet_bytes_le input;
          opens_it = by_tape_lem (goes s) h;
        }

    tape_opens : (g : Going Heard) → heard counts ≡ g → (plan : Plan) → Ok plan ≡ by_heard counts (sheet_bytes (lines input)) g → OpensTo input plan p t
    unfolding by_heard
    tape_opens (goes s) h plan o =
        let q : record { counts = counts; from = sheet_bytes (lines input); last = last_instant s } ≡ plan = cc in
        subst (λ (x : Plan). OpensTo input x p t) q (goes_to s h)
    tape_opens (refused x) h plan o = opens_not plan x o

    tape_refuses : (g : Going Heard) → heard counts ≡ g → (x : Refusal) → Err x ≡ by_heard counts (sheet_bytes (lines input)) g → opening input ≡ refused x
    unfolding by_heard after_tape
    tape_refuses (goes s) h x o = opens_not _ x (sym o)
    tape_refuses (refused y) h x o = let q : y ≡ x = cc in by_tape_lem (refused y) h ∙ ap refused q

  -- by what came of the sheet
  module _ (w : leb (length input) INPUT_BYTES ≡ true) where
    sheet_opens : (a : Result Counts Refusal) → Reads a → (plan : Plan) → Ok plan ≡ by_sheet input a → OpensTo input plan p t
    unfolding by_sheet by_tape
    sheet_opens (Ok counts) e plan o = tape_opens w counts e (heard counts) refl plan o
    sheet_opens (Err x) e plan o = opens_not plan x o

    sheet_refuses : (a : Result Counts Refusal) → Reads a → (x : Refusal) → Err x ≡ by_sheet input a → opening input ≡ refused x
    unfolding by_sheet by_tape after_sheet
    sheet_refuses (Ok counts) e x o = tape_refuses w counts e (heard counts) refl x o
    sheet_refuses (Err y) e x o = let q : y ≡ x = cc in by_sheet_lem w (Err y) e ∙ ap refused q

  -- THE LAWS
  module _ (o : Result Plan Refusal) (is : opened o p t ≡ planned input) where
    -- the parts of what came back, for an input within its limit
    parts : leb (length input) INPUT_BYTES ≡ true → (o ≡ by_sheet input (sheet_reading input).answer) × Reads (sheet_reading input).answer
    unfolding planned by_reading Reads
    parts w =
        let e : opened o p t ≡ by_reading input = is ∙ rw w refl in
        let x : tables_of p t ≡ (sheet_reading input).tables = ap (λ (z : Planned). z.tables) e in
        (ap (λ (z : Planned). z.answer) e, λ i. record { answer = (sheet_reading input).answer; tables = sym x i })

    long : leb (length input) INPUT_BYTES ≡ false → o ≡ Err (refusal Length 0)
    unfolding planned
    long w =
        let e : planned input ≡ opened (Err (refusal Length 0)) (replicate PERIODIC_TABLE 0) (replicate TRIGGER_TABLE 0) = rw w refl in
        ap (λ (z : Planned). z.answer) (is ∙ e)

    pub plan_opens : (plan : Plan) → o ≡ Ok plan → OpensTo input plan p t
    plan_opens plan h =
        ⊎_elim
        (λ (w : leb (length input) INPUT_BYTES ≡ true). let x = parts w in sheet_opens w (sheet_reading input).answer x.1 plan (sym h ∙ x.0))
        (λ (w : leb (length input) INPUT_BYTES ≡ false). opens_not plan _ (sym h ∙ long w))
        (test (leb (length input) INPUT_BYTES))

    pub plan_refuses : (x : Refusal) → o ≡ Err x → opening input ≡ refused x
    unfolding opening
    plan_refuses x h =
        ⊎_elim
        (λ (w : leb (length input) INPUT_BYTES ≡ true). let y = parts w in sheet_refuses w (sheet_reading input).answer y.1 x (sym h ∙ y.0))
        (λ (w : leb (length input) INPUT_BYTES ≡ false).
        let e : Err x ≡ Err (refusal Length 0) = sym h ∙ long w in
        let q : refusal Length 0 ≡ x = cc in
        rw w (ap refused q))
        (test (leb (length input) INPUT_BYTES))
