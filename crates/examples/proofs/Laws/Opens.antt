-- What a day's input opens: where its sheet and its tape are read to what is expected, these are what its opening has.
-- Assumes nothing.
use Rattle.std.specs.Prelude.{◌≡◌, Bool, true, false, ◌&&◌, ◌||◌, List, [], ◌∷◌, ℕ, leb, eqb, length, Ok}
use Rattle.std.proofs.Math.Path.{refl, ap₂, fun_ext, subst}
use Rattle.std.proofs.Common.{ap, ◌∙◌, ⊎_elim, eqb-true}
use Rattle.std.proofs.lemmas.Bool.{false≢true}
use Rattle.theory.specs.Sheet.{GoodOrder}
use Rattle.theory.specs.Graph.{NoLoop}
use Rattle.theory.specs.Model.{Stream}
use Rattle.theory.specs.Box.{Within}
use Rattle.theory.proofs.Laws.Tests.{and_left, and_right, test}
use Rattle.tables.specs.Layout.{PERIODIC_TABLE, TRIGGER_TABLE, sheet_of, padded}
use Rattle.text.specs.Lines.{Lines, none, endless, line, lines}
use Rattle.frames.specs.Frame.{bytes_of}
use Rattle.kinds.specs.Kinds.{kind}
use Rattle.line_readers.specs.Walks.{Going, goes, refused}
use Rattle.reader.specs.Out.{ReadOutcome, read_outcome}
use Rattle.day_split.specs.Split.{sheet_lines, tape_part}
use Rattle.tape_frames.specs.Frame.{ASK}
use Rattle.tape_tests.specs.declared.Heard.{Heard}
use Rattle.tape_tests.specs.Tests.{last_instant}
use Rattle.tape.specs.Tape.{unheard, line_asks, asks_in}
use Rattle.tape.specs.Laws.Fine.{accepted_fine, fine_within}
use Rattle.day_input.specs.Opening.{INPUT_BYTES, opens, after_tape, after_sheet, sheet_reading, opening}
use Rattle.examples.specs.Written.{Requested, stream_of}
use Rattle.examples.specs.Day.{text, Day, sheet_of_day}
use Rattle.examples.proofs.Laws.Passes.{read_found, heard_to, ask_of, asks_of, same_asked, heard, open_found}
use Rattle.examples.proofs.Laws.Read.{reads_to}

-- ---- the requests of a tape

-- a line asks for what its request says, and a line that is none asks for nothing
line_listed : (l : List ℕ) (qs : List Requested) (t d e p : ℕ) → eqb (kind (bytes_of l)) ASK ≡ true → (line_asks l t d e p || stream_of qs t d e p) ≡ stream_of (ask_of (bytes_of l) ∷ qs) t d e p
unfolding line_asks stream_of
line_listed l qs t d e p k = rw k refl

line_silent : (l : List ℕ) (t d e p : ℕ) → eqb (kind (bytes_of l)) ASK ≡ false → line_asks l t d e p ≡ false
unfolding line_asks
line_silent l t d e p k = rw k refl

-- the requests of any lines, as a list
asks_here : (ls : Lines) (t d e p : ℕ) → asks_in ls t d e p ≡ stream_of (asks_of ls) t d e p
unfolding asks_in asks_of stream_of
asks_here none t d e p = refl
asks_here (endless l) t d e p = refl
asks_here (line l ls) t d e p =
    ⊎_elim
    (λ (k : eqb (kind (bytes_of l)) ASK ≡ true). rw k (ap (λ (b : Bool). line_asks l t d e p || b) (asks_here ls t d e p) ∙ line_listed l (asks_of ls) t d e p k))
    (λ (k : eqb (kind (bytes_of l)) ASK ≡ false). rw (k, line_silent l t d e p k) (asks_here ls t d e p))
    (test (eqb (kind (bytes_of l)) ASK))

-- THE REQUESTS of a tape are exactly those of the list
pub asks_listed : (ls : Lines) → asks_in ls ≡ stream_of (asks_of ls)
asks_listed ls = fun_ext (λ t. fun_ext (λ d. fun_ext (λ e. fun_ext (λ p. asks_here ls t d e p))))

same_asked_lem : (qs rs : List Requested) → same_asked qs rs ≡ true → qs ≡ rs
same_asked_lem [] [] h = refl
same_asked_lem [] (r ∷ rs) h = absurd (false≢true h)
same_asked_lem (q ∷ qs) [] h = absurd (false≢true h)
same_asked_lem (q ∷ qs) (r ∷ rs) h =
    let what : Bool = eqb q.what.event r.what.event && eqb q.what.priority r.what.priority in
    let when : Bool = eqb q.instant r.instant && eqb q.delay r.delay in
    let h₁ = and_left (what && when) (same_asked qs rs) h in
    let e = eqb-true _ _ (and_left (eqb q.what.event r.what.event) _ (and_left what when h₁)) in
    let p = eqb-true _ _ (and_right (eqb q.what.event r.what.event) _ (and_left what when h₁)) in
    let t = eqb-true _ _ (and_left (eqb q.instant r.instant) _ (and_right what when h₁)) in
    let d = eqb-true _ _ (and_right (eqb q.instant r.instant) _ (and_right what when h₁)) in
    let others : qs ≡ rs = same_asked_lem qs rs (and_right (what && when) (same_asked qs rs) h) in
    λ i. record { what = record { event = e i; priority = p i }; instant = t i; delay = d i } ∷ others i

-- the tape's lines were read to a state with this last instant
heard_to_lem : (x : Going Heard) (last : ℕ) → heard_to x last ≡ true → (s : Heard) × (x ≡ goes s) × (last_instant s ≡ last)
heard_to_lem (goes s) last h = (s, refl, eqb-true (last_instant s) last h)
heard_to_lem (refused r) last h = absurd (false≢true h)

-- ---- the opening

module _ (d : Day) (good : GoodOrder (sheet_of_day d)) (nl : NoLoop (sheet_of_day d)) (h : open_found d ≡ true) where
  abbrev input : List ℕ
  input = text d.input

  -- the parts of the test
  parts : (leb (length input) INPUT_BYTES ≡ true) × (read_found d ≡ true) × (heard_to (heard d) d.last ≡ true) × (same_asked (asks_of (lines (tape_part input))) d.requests ≡ true)
  unfolding open_found
  parts =
      let h₁ = and_left (leb (length input) INPUT_BYTES && read_found d) _ h in
      let h₂ = and_right (leb (length input) INPUT_BYTES && read_found d) _ h in
      (and_left (leb (length input) INPUT_BYTES) _ h₁, and_right (leb (length input) INPUT_BYTES) _ h₁, and_left (heard_to (heard d) d.last) _ h₂, and_right (heard_to (heard d) d.last) _ h₂)

  pub opens_read : sheet_reading input ≡ read_outcome (Ok d.read) (padded PERIODIC_TABLE d.periodics) (padded TRIGGER_TABLE d.triggers)
  opens_read = reads_to d good nl parts.1

  -- the tape was read to its end
  ended : (s : Heard) × (heard d ≡ goes s) × (last_instant s ≡ d.last)
  ended = heard_to_lem (heard d) d.last parts.2

  -- its requests
  asked : asks_in (lines (tape_part input)) ≡ stream_of d.requests
  asked = asks_listed (lines (tape_part input)) ∙ ap stream_of (same_asked_lem _ d.requests parts.3)

  -- THE LAW
  pub opens_to : opening input ≡ opens (sheet_of_day d) (stream_of d.requests) d.last
  unfolding opening after_sheet after_tape
  opens_to =
      let within : opening input ≡ after_sheet input (sheet_reading input).answer (sheet_reading input).tables = rw parts.0 refl in
      within
      ∙ (ap (λ (o : ReadOutcome). after_sheet input o.answer o.tables) opens_read
      ∙ (ap (after_tape (sheet_of_day d) (lines (tape_part input))) ended.1
      ∙ ap₂ (λ (RQ : Stream) (last : ℕ). opens (sheet_of_day d) RQ last) asked ended.2))

  -- each request is within its limits
  pub opens_within : Within (sheet_of_day d) (stream_of d.requests)
  unfolding sheet_of
  opens_within =
      let fine = accepted_fine d.read.roles ended.0 (unheard (sheet_lines (lines input))) (lines (tape_part input)) ended.1 in
      subst (Within (sheet_of_day d)) asked (λ t u e p a. fine_within d.read.roles 0 0 (lines (tape_part input)) fine t u e p a)
