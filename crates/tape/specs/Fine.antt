-- What the lines of an accepted tape have: requests by rising instants, no more than 32 in a row of one instant, each within its limits, and nothing after the end.
-- Assumes nothing.
use Rattle.std.specs.Prelude.{◌≡◌, Bool, true, false, cond, List, ℕ, ◌+◌, ◌≤◌, ◌<◌, eqb}
use Rattle.theory.specs.Numbers.{REQUESTS}
use Rattle.text.specs.Lines.{Lines, none, endless, line}
use Rattle.frames.specs.Frame.{bytes_of}
use Rattle.kinds.specs.Kinds.{kind}
use Rattle.requests.specs.Requests.{fits}
use Rattle.tape_frames.specs.Frame.{ASK, instant_of, asked_in}

-- a line is a request
abbrev pub is_ask : List ℕ → Bool
is_ask l = eqb (kind (bytes_of l)) ASK

abbrev pub at : List ℕ → ℕ
at l = instant_of (bytes_of l)

-- how many requests in a row are of the instant of this line, when n before it were of t
abbrev pub more : ℕ → ℕ → ℕ → ℕ
more t n u = cond (eqb u t) (n + 1) 1

-- lines that go on after n requests in a row of instant t
abbrev pub Fine : ℕ → ℕ → ℕ → Lines → Type 0
Fine roles t n none = Unit {0}
Fine roles t n (endless l) = Unit {0}
Fine roles t n (line l ls) =
    (is_ask l ≡ true → (t ≤ at l) × (at l ≡ t → n < REQUESTS) × (fits roles (asked_in (bytes_of l)) ≡ true) × Fine roles (at l) (more t n (at l)) ls)
    × (is_ask l ≡ false → ls ≡ none)
