-- Reading as document 01 says it: LENGTH, then line by line from 1, and after the last line LOOP. What is refused at which line and in which column, what reads whole, and what the tables hold then.
-- Assumes nothing.
use Rattle.std.specs.Prelude.{◌≡◌, true, cond, List, [], ◌∷◌, ◌++◌, map, ℕ, suc, ◌-◌, ◌≤◌, ◌<◌, eqb, length, get_or, take, Err, Ok}
use Rattle.theory.specs.Numbers.{SHEET_BYTES}
use Rattle.theory.specs.Sheet.{Sheet}
use Rattle.theory.specs.Graph.{NoLoop, LoopAt}
use Rattle.answers.specs.declared.Name.{Name}
use Rattle.answers.specs.declared.Name.TheVariants.{Length, Frame, Kind, Loop}
use Rattle.answers.specs.declared.Refusal.{Refusal}
use Rattle.answers.specs.Answers.{refusal, in_column}
use Rattle.line_readers.specs.Column.{column_of}
use Rattle.frames.specs.Frame.{bytes_of}
use Rattle.tables.specs.declared.Counts.{Counts}
use Rattle.tables.specs.Layout.{PERIODIC_TABLE, TRIGGER_TABLE, padded}
use Rattle.tables.specs.Lent.{rules, sheet_in}
use Rattle.periodic_frames.specs.Row.{periodic_row}
use Rattle.trigger_frames.specs.Row.{trigger_row}
use Rattle.kinds.specs.Kinds.{PERIODIC, TRIGGER, END, kind}
use Rattle.reader.specs.Out.{ReadOutcome, read_outcome}
use Rattle.line_by_line.specs.Lines.{lines_in, rest_in}
use Rattle.line_by_line.specs.Tests.{how_many, role_count, order, all_pass, FirstFails, bad_field}

-- ---- lines and their frames

-- the frames of lines
abbrev pub frames_of : List (List ℕ) → List (List ℕ)
frames_of ls = map bytes_of ls

-- line k, counted from 1
abbrev pub the_line : List (List ℕ) → ℕ → List ℕ
the_line ls k = get_or ls (k - 1) []

-- the frames of lines 1 to k − 1
abbrev pub frames_before : List (List ℕ) → ℕ → List (List ℕ)
frames_before ls k = frames_of (take (k - 1) ls)

-- ---- line by line

-- LINE k PASSES each of its tests
abbrev pub Passes : List (List ℕ) → ℕ → Type 0
Passes ls k = all_pass order (frames_before ls k) (the_line ls k) ≡ true

-- LINE k FAILS the test of this name, and passes those before it
abbrev pub Fails : Name → List (List ℕ) → ℕ → Type 0
Fails name ls k = FirstFails order name (frames_before ls k) (the_line ls k)

-- what is wrong at line k, where `rest` is what stands after the last 0A
pub data Fault (ls : List (List ℕ)) (rest : List ℕ) (name : Name) (k : ℕ) : Type 0 where
  -- it fails the test of this name
  fails : k ≤ length ls → Fails name ls k → Fault ls rest name k
  -- it is the last, and has no final 0A: FRAME
  no_final : k ≡ suc (length ls) → ¬ (rest ≡ []) → name ≡ Frame → Fault ls rest name k
  -- it is the line after the last, and no line is the end frame: KIND
  no_end : k ≡ suc (length ls) → rest ≡ [] → how_many END (frames_of ls) ≡ 0 → name ≡ Kind → Fault ls rest name k

-- REFUSED AT LINE k with this name: lines 1 to k − 1 pass all their tests, and line k has that fault
pub record RefusedAt (ls : List (List ℕ)) (rest : List ℕ) (name : Name) (k : ℕ) : Type 0 where
  pub from_1 : 1 ≤ k
  pub before : (j : ℕ) → 1 ≤ j → j < k → Passes ls j
  pub fault : Fault ls rest name k

-- THE FAULTY LINE, k: one of the lines, or what stands after the last 0A
abbrev pub faulty_line : List (List ℕ) → List ℕ → ℕ → List ℕ
faulty_line ls rest k = the_line (ls ++ rest ∷ []) k

-- the refusal of this name at line k: its column is that of the name in the faulty line (line_readers/Column)
abbrev pub refusal_at : List (List ℕ) → List ℕ → Name → ℕ → Refusal
refusal_at ls rest name k =
    let l : List ℕ = faulty_line ls rest k in
    in_column (column_of name l (bad_field (frames_before ls k) l)) (refusal name k)

-- READS WHOLE: every line passes all its tests, nothing stands after the last 0A, and the end frame is there
pub record ReadsWhole (ls : List (List ℕ)) (rest : List ℕ) : Type 0 where
  pub each : (j : ℕ) → 1 ≤ j → j ≤ length ls → Passes ls j
  pub no_rest : rest ≡ []
  pub end_there : 1 ≤ how_many END (frames_of ls)

-- ---- what is handed out

-- the rows of the frames of kind k, in sheet order
abbrev pub rows_of : ℕ → (List ℕ → List ℕ) → List (List ℕ) → List ℕ
rows_of k row [] = []
rows_of k row (f ∷ fs) = cond (eqb (kind f) k) (row f) [] ++ rows_of k row fs

-- THE TABLES of a sheet of these frames
abbrev pub periodic_table : List (List ℕ) → List ℕ
periodic_table fs = padded PERIODIC_TABLE (rows_of PERIODIC periodic_row fs)

abbrev pub trigger_table : List (List ℕ) → List ℕ
trigger_table fs = padded TRIGGER_TABLE (rows_of TRIGGER trigger_row fs)

-- its role count, and how many rows it has of either kind
abbrev pub counts_of : List (List ℕ) → Counts
counts_of fs = record { roles = role_count fs; periodics = how_many PERIODIC fs; triggers = how_many TRIGGER fs }

-- and the sheet that they stand for
abbrev pub sheet_said : List (List ℕ) → Sheet
sheet_said fs = sheet_in (rules (counts_of fs) (periodic_table fs) (trigger_table fs))

-- ---- what comes back

-- LENGTH IS NOT GIVEN: the sheet is within its limit, and the lent tables have their exact lengths
pub record LengthsFit (sheet p t : List ℕ) : Type 0 where
  pub of_sheet : length sheet ≤ SHEET_BYTES
  pub of_periodics : length p ≡ PERIODIC_TABLE
  pub of_triggers : length t ≡ TRIGGER_TABLE

-- the frames of a sheet's lines
abbrev pub frames_in : List ℕ → List (List ℕ)
frames_in sheet = frames_of (lines_in sheet)

-- WHAT COMES BACK of a sheet's bytes, with the lent tables p and t as they came: the answer, and what the tables hold then, which after a refusal is p and t
pub data ComesBack (sheet p t : List ℕ) (o : ReadOutcome) : Type 0 where
  -- LENGTH, at 0;
  by_length : ¬ LengthsFit sheet p t → o ≡ read_outcome (Err (refusal Length 0)) p t → ComesBack sheet p t o
  -- else a line is refused, with its name at its number, in its column;
  at_line : (name : Name) (k : ℕ) → LengthsFit sheet p t → RefusedAt (lines_in sheet) (rest_in sheet) name k
      → o ≡ read_outcome (Err (refusal_at (lines_in sheet) (rest_in sheet) name k)) p t → ComesBack sheet p t o
  -- else the sheet has a loop: LOOP, at the pair;
  by_loop : (k : ℕ) → LengthsFit sheet p t → ReadsWhole (lines_in sheet) (rest_in sheet) → LoopAt (sheet_said (frames_in sheet)) k → o ≡ read_outcome (Err (refusal Loop k)) p t → ComesBack sheet p t o
  -- else OK, with the sheet's counts and tables
  accepted : LengthsFit sheet p t → ReadsWhole (lines_in sheet) (rest_in sheet) → NoLoop (sheet_said (frames_in sheet))
      → o ≡ read_outcome (Ok (counts_of (frames_in sheet))) (periodic_table (frames_in sheet)) (trigger_table (frames_in sheet)) → ComesBack sheet p t o
