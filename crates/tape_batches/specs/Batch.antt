-- The requests of one instant that stand in a tape from some line on, one after the other.
-- Assumes nothing.
use Rattle.std.specs.Prelude.{Bool, cond, ◌&&◌, List, ℕ, ◌+◌, ltb, eqb, length, replicate}
use Rattle.theory.specs.Numbers.{REQUESTS}
use Rattle.text.specs.Lines.{Lines, none, endless, line}
use Rattle.frames.specs.Frame.{bytes_of}
use Rattle.kinds.specs.Kinds.{kind}
use Rattle.requests.specs.Flat.{FLAT_NUMBERS, put_at}
use Rattle.tape_frames.specs.Frame.{ASK, instant_of, asked_in}
use Rattle.tape_batches.specs.declared.Batch.{Batch}

-- a line is a request of instant t
unfoldable pub is_of : ℕ → List ℕ → Bool
is_of t l = eqb (kind (bytes_of l)) ASK && eqb (instant_of (bytes_of l)) t

-- with the request of a line more
abbrev pub taken : Batch → List ℕ → Batch
taken b l = record { asked = put_at b.asked b.count (asked_in (bytes_of l)); count = b.count + 1; next = b.next + (length l + 1) }

-- the requests of instant t that come next, at most 32 in all
unfoldable pub takes : ℕ → Lines → Batch → Batch
takes t none b = b
takes t (endless l) b = b
takes t (line l ls) b = cond (is_of t l && ltb b.count REQUESTS) (takes t ls (taken b l)) b

-- and the lines after them, if n were taken before
unfoldable pub rest : ℕ → Lines → ℕ → Lines
rest t none n = none
rest t (endless l) n = endless l
rest t (line l ls) n = cond (is_of t l && ltb n REQUESTS) (rest t ls (n + 1)) (line l ls)

-- before the first, at this byte of the tape
abbrev pub none_yet : ℕ → Batch
none_yet at = record { asked = replicate FLAT_NUMBERS 0; count = 0; next = at }
