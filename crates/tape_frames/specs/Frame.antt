-- The kinds of a tape's frames, and what a frame of a tape says (document 01, 'The day program').
-- Assumes nothing.
use Rattle.std.specs.Prelude.{cond, List, ℕ, eqb, Option, Some, None}
use Rattle.tables.specs.Layout.{byte_at, four}
use Rattle.tables.specs.Asked as lent
use Rattle.tape_frames.specs.declared.Kind.{Kind}
use Rattle.tape_frames.specs.declared.Kind.TheVariants.{Ask, End}

-- 40 request, F1 end
abbrev pub ASK : ℕ
ASK = 0x40

abbrev pub TAPE_END : ℕ
TAPE_END = 0xf1

-- the kind that a frame's first byte says; none where that byte is of no kind
unfoldable pub kind_in : List ℕ → Option Kind
kind_in f = cond (eqb (byte_at f 0) ASK) (Some Ask) (cond (eqb (byte_at f 0) TAPE_END) (Some End) None)

-- both kinds have an instant of 4 bytes: the request's, or the last one
abbrev pub instant_of : List ℕ → ℕ
instant_of f = four f 1

-- then event 1, priority 1, delay 1
abbrev pub asked_in : List ℕ → lent.Request
asked_in f = record { event = byte_at f 5; priority = byte_at f 6; delay = byte_at f 7 }
