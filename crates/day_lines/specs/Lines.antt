-- The lines of a day's instants (document 01, 'The day program').
-- Assumes nothing.
use Rattle.std.specs.Prelude.{cond, List, [], ◌++◌, ℕ, zero, suc, ◌+◌, ◌^◌}
use Rattle.theory.specs.Numbers.{ROLES, EVENTS}
use Rattle.theory.specs.Below.{count_below}
use Rattle.theory.specs.Events.{Events, Roles, nonblocked}
use Rattle.theory.specs.Model.{Trace}
use Rattle.prints.specs.Print.{line_of}
use Rattle.printed_frames.specs.Frames.{minute_frame}

-- a set of roles as a number: role r has weight 2 to the power r
unfoldable pub weight_below : ℕ → Roles → ℕ
weight_below zero ST = 0
weight_below (suc n) ST = weight_below n ST + cond (ST n) (2 ^ n) 0

-- the line of instant t: the roles after it, and the count of the events with a nonblocked member
unfoldable pub line_at : ℕ → Roles → Events → List ℕ
line_at t after S = line_of (minute_frame t (weight_below ROLES after) (count_below EVENTS (nonblocked S S)))

unfoldable pub minute_line : Trace → ℕ → List ℕ
minute_line tr t = line_at t (tr.ST (suc t)) (tr.EV t)

-- the lines of the first n instants
unfoldable pub minute_lines : Trace → ℕ → List ℕ
minute_lines tr zero = []
minute_lines tr (suc n) = minute_lines tr n ++ minute_line tr n

-- the bytes of a minute's line
abbrev pub LINE : ℕ
LINE = 31

-- the longest day: 10,081 lines of 31 bytes
abbrev pub OUTPUT_BYTES : ℕ
OUTPUT_BYTES = 312511
