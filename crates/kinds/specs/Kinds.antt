-- The kinds of frames: how many bytes each has, and where each may stand.
-- Assumes nothing.
use Rattle.std.specs.Prelude.{Bool, false, cond, ◌||◌, List, ℕ, ◌+◌, eqb, length}
use Rattle.tables.specs.Layout.{byte_at}
use Rattle.kinds.specs.declared.Stage.{Stage}
use Rattle.kinds.specs.declared.Stage.TheVariants.{Start, Rows, Ended}

-- 10 header, 20 periodic, 30 trigger, F0 end
abbrev pub HEADER : ℕ
HEADER = 0x10

abbrev pub PERIODIC : ℕ
PERIODIC = 0x20

abbrev pub TRIGGER : ℕ
TRIGGER = 0x30

abbrev pub END : ℕ
END = 0xf0

-- the kind is a frame's first byte
abbrev pub kind : List ℕ → ℕ
kind f = byte_at f 0

-- how many bytes a frame of this kind has, the kind and the check among them; a trigger with e events and c conditions has 7 + e + c; an unknown kind has 0, and no framed line has so few
unfoldable pub size_of : ℕ → ℕ → ℕ → ℕ
size_of k e c = cond (eqb k HEADER) 4 (cond (eqb k PERIODIC) 18 (cond (eqb k TRIGGER) (7 + e + c) (cond (eqb k END) 5 0)))

-- the frame has the byte count of its kind
abbrev pub sized : List ℕ → Bool
sized f = eqb (length f) (size_of (kind f) (byte_at f 1) (byte_at f 2))

-- which kinds may stand where: the header first and only there, then rows of both kinds and the end, after the end nothing
unfoldable pub may_stand : Stage → ℕ → Bool
may_stand Start k = eqb k HEADER
may_stand Rows k = eqb k PERIODIC || (eqb k TRIGGER || eqb k END)
may_stand Ended k = false
