-- Laws of the requests of one instant: one turn of the loop that takes them.
-- Assumes nothing.
use Rattle.std.specs.Prelude.{◌≡◌, true, false, ◌&&◌, List, ℕ, ◌+◌, ◌-◌, ◌≤◌, ◌<◌, None, Some, ltb, length, take, drop}
use Rattle.std.proofs.Math.Path.{refl}
use Rattle.std.proofs.Common.{sym, ◌∙◌, arith, length-drop, length-take, drop_of_length-le, ltb-true}
use Rattle.theory.specs.Numbers.{REQUESTS}
use Rattle.theory.proofs.Laws.Tests.{and_right}
use Rattle.text.specs.Lines.{Lines, none, endless, line, lines, first_ended, span}
use Rattle.text.specs.Laws.Lines.{line_here, endless_here, next_line}
use Rattle.frames.specs.Frame.{bytes_of}
use Rattle.requests.specs.Flat.{FLAT_NUMBERS, put_at}
use Rattle.requests.specs.Laws.Flat.{put_size}
use Rattle.tape_frames.specs.Frame.{asked_in}
use Rattle.tape_batches.specs.declared.Batch.{Batch}
use Rattle.tape_batches.specs.Batch.{is_of, taken, takes, rest}

-- there is room for one more
pub room : (t n : ℕ) (l : List ℕ) → (is_of t l && ltb n REQUESTS) ≡ true → n < REQUESTS
room t n l h = ltb-true n REQUESTS (and_right (is_of t l) (ltb n REQUESTS) h)

abbrev pub batch_of : List ℕ → ℕ → ℕ → Batch
batch_of asked n next = record { asked = asked; count = n; next = next }

-- what is taken from here on, and what is left then
abbrev pub Taking : ℕ → List ℕ → Batch → Batch → Lines → Type 0
Taking t tape b whole left = (takes t (lines (drop b.next tape)) b ≡ whole) × (rest t (lines (drop b.next tape)) b.count ≡ left)

-- nothing more is taken
abbrev pub Took : List ℕ → Batch → Batch → Lines → Type 0
Took tape b whole left = (b ≡ whole) × (lines (drop b.next tape) ≡ left)

module _ (t : ℕ) (tape : List ℕ) (b whole : Batch) (left : Lines) (from : Taking t tape b whole left) where
  -- after the last line
  pub takes_none : length tape ≤ b.next → Took tape b whole left
  unfolding takes rest
  takes_none h = rw (drop_of_length-le tape h) (rw (drop_of_length-le tape h) at from)

  -- the line from the cursor to e, its end
  module _ (e : ℕ) (ends : e ≡ b.next + span (drop b.next tape)) where
    pub takes_endless : b.next < length tape → e ≡ length tape → Took tape b whole left
    unfolding takes rest
    takes_endless h k = rw (endless_here tape b.next e ends h k) (rw (endless_here tape b.next e ends h k) at from)

    module _ (inside : e < length tape) where
      abbrev here : List ℕ
      here = take (e - b.next) (drop b.next tape)

      pub takes_other : (is_of t here && ltb b.count REQUESTS) ≡ false → Took tape b whole left
      unfolding takes rest
      takes_other o = rw (line_here tape b.next e ends inside) (rw (line_here tape b.next e ends inside, o) at from)

      size : b.next + (length here + 1) ≡ e + 1
      size = omega (arith, length-take (e - b.next) (drop b.next tape), length-drop b.next tape, ends)

      -- with the request of the line put in
      pub takes_more : (is_of t here && ltb b.count REQUESTS) ≡ true → (asked : List ℕ) → asked ≡ put_at b.asked b.count (asked_in (bytes_of here))
          → length b.asked ≡ FLAT_NUMBERS → (length asked ≡ FLAT_NUMBERS) × Taking t tape (batch_of asked (b.count + 1) (e + 1)) whole left
      unfolding takes rest
      takes_more o asked q z =
          let f : Taking t tape b whole left = from in
          let n : taken b here ≡ batch_of asked (b.count + 1) (e + 1) = rw (q, size) refl in
          (rw q (put_size b.asked b.count (asked_in (bytes_of here)) ∙ z), rw (line_here tape b.next e ends inside, o, n) at f)

-- ---- the same by the first line from the cursor on

still : (t : ℕ) (ls : Lines) (b : Batch) → None ≡ first_ended ls → (takes t ls b ≡ b) × (rest t ls b.count ≡ ls)
unfolding takes rest
still t none b e = (refl, refl)
still t (endless l) b e = (refl, refl)
still t (line l ls) b e = absurd (cc)

module _ (t : ℕ) (tape : List ℕ) (b whole : Batch) (left : Lines) (from : Taking t tape b whole left) where
  -- there is no line with its 0A
  pub takes_end : None ≡ first_ended (lines (drop b.next tape)) → Took tape b whole left
  takes_end e = let s = still t (lines (drop b.next tape)) b e in (sym s.0 ∙ from.0, sym s.1 ∙ from.1)

  module _ (l : List ℕ) (is : Some l ≡ first_ended (lines (drop b.next tape))) where
    -- the first is no request of the instant, or there is no room for it
    pub takes_stop : (is_of t l && ltb b.count REQUESTS) ≡ false → Took tape b whole left
    unfolding takes rest
    takes_stop o = rw (next_line tape b.next l is) (rw (next_line tape b.next l is, o) at from)

    -- it is one, and is put in
    pub takes_on : (is_of t l && ltb b.count REQUESTS) ≡ true → (asked : List ℕ) → asked ≡ put_at b.asked b.count (asked_in (bytes_of l))
        → length b.asked ≡ FLAT_NUMBERS → (length asked ≡ FLAT_NUMBERS) × Taking t tape (batch_of asked (b.count + 1) (b.next + (length l + 1))) whole left
    unfolding takes rest
    takes_on o asked q z =
        let f : Taking t tape b whole left = from in
        let n : taken b l ≡ batch_of asked (b.count + 1) (b.next + (length l + 1)) = rw q refl in
        (rw q (put_size b.asked b.count (asked_in (bytes_of l)) ∙ z), rw (next_line tape b.next l is, o, n) at f)
