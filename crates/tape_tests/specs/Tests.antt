-- The tests of a line of a tape, in their order (document 01, 'The day program'), and the column of its refusal.
-- Assumes nothing.
use Rattle.std.specs.Prelude.{Bool, true, not, cond, ◌&&◌, ◌||◌, List, ℕ, ltb, leb, eqb, length, is_none}
use Rattle.std.specs.Option.{unwrap_or}
use Rattle.theory.specs.Numbers.{REQUESTS}
use Rattle.answers.specs.declared.Name.TheVariants.{Request}
use Rattle.line_readers.specs.declared.Tests.{Tests}
use Rattle.line_readers.specs.Order.{in_order}
use Rattle.line_readers.specs.Column.{located}
use Rattle.text.specs.Framed.{framed}
use Rattle.frames.specs.Frame.{bytes_of, checked}
use Rattle.kinds.specs.Kinds.{kind}
use Rattle.requests.specs.Requests.{fits}
use Rattle.tape_frames.specs.Frame.{ASK, TAPE_END, instant_of, asked_in}
use Rattle.tape_tests.specs.declared.Heard.{Heard}
use Rattle.answers.specs.Answers.{Verdict}

-- the last instant of a day is at most this
abbrev pub LONGEST_DAY : ℕ
LONGEST_DAY = 10080

-- the last instant that the end said, and 0 while it was not there
abbrev pub last_instant : Heard → ℕ
last_instant s = unwrap_or s.end 0

-- how many bytes a frame of this kind has, the kind and the check among them; an unknown kind has 0, and no framed line has so few
unfoldable pub tape_size : ℕ → ℕ
tape_size k = cond (eqb k ASK) 9 (cond (eqb k TAPE_END) 6 0)

-- passes KIND: a known kind, its byte count, and no line after the end
unfoldable pub of_tape : Heard → List ℕ → Bool
of_tape s f = eqb (length f) (tape_size (kind f)) && is_none s.end

-- passes TOO MANY: no 33rd request in a row of one instant
unfoldable pub room_for_request : Heard → List ℕ → Bool
room_for_request s f = cond (eqb (kind f) ASK) (not (eqb (instant_of f) s.instant) || ltb s.many REQUESTS) true

-- passes FIELD: no instant below the one before; at the end a last instant within the limit and not below the last request's
unfoldable pub in_time : Heard → List ℕ → Bool
in_time s f = cond (eqb (kind f) TAPE_END) (leb s.instant (instant_of f) && leb (instant_of f) LONGEST_DAY) (leb s.instant (instant_of f))

-- passes REQUEST, with this role count
unfoldable pub ask_fits : ℕ → List ℕ → Bool
ask_fits roles f = cond (eqb (kind f) ASK) (fits roles (asked_in f)) true

-- whether each test passes, of a line and of the frame that it holds
unfoldable pub tape_tests : ℕ → Heard → List ℕ → Tests
tape_tests roles s l =
    let f : List ℕ = bytes_of l in
    record { framed = framed l; checked = checked f; kind = of_tape s f; room = room_for_request s f; field = in_time s f; last = ask_fits roles f }

-- FIELD is of the instant, which follows the kind
abbrev pub INSTANT_BYTE : ℕ
INSTANT_BYTE = 1

unfoldable pub judge_tape : ℕ → ℕ → Heard → List ℕ → Verdict
judge_tape place roles s l = located l INSTANT_BYTE (in_order (tape_tests roles s l) Request place)
