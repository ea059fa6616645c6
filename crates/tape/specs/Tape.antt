-- A tape: what each line does to what was read so far, the lines in order, and the requests that they make (document 01, 'The day program').
-- Assumes nothing.
use Rattle.std.specs.Prelude.{false, cond, ◌&&◌, ◌||◌, List, ℕ, ◌+◌, None, Some, eqb, is_some}
use Rattle.theory.specs.Sheet.{is}
use Rattle.theory.specs.Model.{Stream}
use Rattle.answers.specs.declared.Name.TheVariants.{Kind}
use Rattle.answers.specs.Answers.{refusal}
use Rattle.text.specs.Lines.{Lines, none, endless, line, lines}
use Rattle.frames.specs.Frame.{bytes_of}
use Rattle.line_readers.specs.Walks.{Going, goes, refused, by_verdict, Reader, walks}
use Rattle.kinds.specs.Kinds.{kind}
use Rattle.tape_frames.specs.Frame.{ASK, instant_of, asked_in}
use Rattle.tape_tests.specs.declared.Heard.{Heard}
use Rattle.tape_tests.specs.Tests.{judge_tape}

-- ---- the lines

-- how many requests in a row are of instant t, with one more of it
unfoldable pub many_with : Heard → ℕ → ℕ
many_with s t = cond (eqb t s.instant) (s.many + 1) 1

-- a request, or else the end
unfoldable pub heard_after : Heard → List ℕ → Heard
heard_after s f =
    cond (eqb (kind f) ASK)
    (record { line = s.line + 1; instant = instant_of f; many = many_with s (instant_of f); end = None })
    (record { line = s.line + 1; instant = s.instant; many = s.many; end = Some (instant_of f) })

-- THE LINE: its tests, at the line after those that were read, and what it does
unfoldable pub tape_step : ℕ → Heard → List ℕ → Going Heard
tape_step roles s l = by_verdict (judge_tape (s.line + 1) roles s l) (heard_after s (bytes_of l))

-- after the last line: the end was there, else KIND at the line after it
unfoldable pub tape_ends : Heard → Going Heard
tape_ends s = cond (is_some s.end) (goes s) (refused (refusal Kind (s.line + 1)))

-- the reader of a tape
abbrev pub tape_reader : ℕ → Reader Heard
tape_reader roles = record { read = λ s. s.line; takes = tape_step roles; ends = tape_ends }

-- before the first line of a tape, after so many lines of a sheet
abbrev pub unheard : ℕ → Heard
unheard before = record { line = before; instant = 0; many = 0; end = None }

-- THE TAPE: its lines in order, with a role count, after so many lines of a sheet
abbrev pub tape_read : ℕ → ℕ → List ℕ → Going Heard
tape_read roles before tape = walks (tape_reader roles) (goes (unheard before)) (lines tape)

-- ---- the requests

-- a line asks at t for p:e after d
unfoldable pub line_asks : List ℕ → Stream
line_asks l t d e p =
    let f : List ℕ = bytes_of l in
    (eqb (kind f) ASK && eqb (instant_of f) t) && (eqb (asked_in f).delay d && is (asked_in f).event (asked_in f).priority e p)

-- some line of a tape does
unfoldable pub asks_in : Lines → Stream
asks_in none t d e p = false
asks_in (endless l) t d e p = false
asks_in (line l ls) t d e p = line_asks l t d e p || asks_in ls t d e p
