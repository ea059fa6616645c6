-- Laws of the lines of a day: their lengths, one more in the buffer, and that they go by the trace up to the instant.
-- Assumes nothing.
use Rattle.std.specs.Prelude.{◌≡◌, refl, List, ◌++◌, ℕ, zero, suc, ◌+◌, ◌*◌, ◌≤◌, ◌<◌, length, drop}
use Rattle.std.proofs.Common.{sym, ap, ap₂, ◌∙◌, add-one, arith, length-append, take_all}
use Rattle.std.proofs.Math.Seq.{paste}
use Rattle.theory.specs.Numbers.{ROLES, EVENTS}
use Rattle.theory.specs.Below.{count_below}
use Rattle.theory.specs.Events.{nonblocked}
use Rattle.theory.specs.Model.{Trace}
use Rattle.prints.specs.Print.{line_of}
use Rattle.prints.specs.Laws.Lengths.{length_line}
use Rattle.prints.specs.Laws.Pasted.{paste_append}
use Rattle.printed_frames.specs.Frames.{minute_frame}
use Rattle.printed_frames.specs.Laws.Lengths.{length_minute}
use Rattle.day_lines.specs.Lines.{weight_below, line_at, minute_line, minute_lines, LINE}

line_size : (tr : Trace) (t : ℕ) → length (minute_line tr t) ≡ LINE
unfolding minute_line line_at
line_size tr t =
    let n : ℕ = weight_below ROLES (tr.ST (suc t)) in
    let k : ℕ = count_below EVENTS (nonblocked (tr.EV t) (tr.EV t)) in
    omega (arith, length_line (minute_frame t n k), length_minute t n k)

pub lines_size : (tr : Trace) (n : ℕ) → length (minute_lines tr n) ≡ LINE * n
unfolding minute_lines
lines_size tr zero = refl
lines_size tr (suc n) = omega (arith, length-append (minute_lines tr n) (minute_line tr n), lines_size tr n, line_size tr n)

-- the line of the next instant, behind the others
pub lines_next : (tr : Trace) (n : ℕ) (out₀ out : List ℕ) (f : List ℕ) → out ≡ paste out₀ 0 (minute_lines tr n) (LINE * n) → LINE * (n + 1) ≤ length out₀
    → minute_line tr n ≡ line_of f → paste out (LINE * n) (line_of f) (length (line_of f)) ≡ paste out₀ 0 (minute_lines tr (n + 1)) (LINE * (n + 1))
unfolding minute_lines
lines_next tr n out₀ out f e h l =
    let k : length (line_of f) ≡ LINE = sym (ap length l) ∙ line_size tr n in
    let z : LINE * n + LINE ≡ LINE * (n + 1) = omega arith in
    let p = paste_append out₀ (minute_lines tr n) (minute_line tr n) 0 (LINE * n) LINE (lines_size tr n) (line_size tr n) (omega arith) in
    let o : 0 + LINE * n ≡ LINE * n = omega arith in
    ap (λ (m : ℕ). paste out (LINE * n) (line_of f) m) k
    ∙ (ap (λ (x : List ℕ). paste x (LINE * n) (line_of f) LINE) e
    ∙ (ap (λ (x : List ℕ). paste (paste out₀ 0 (minute_lines tr n) (LINE * n)) (LINE * n) x LINE) (sym l)
    ∙ (ap (λ (m : ℕ). paste (paste out₀ 0 (minute_lines tr n) (LINE * n)) m (minute_line tr n) LINE) (sym o)
    ∙ (p ∙ (ap (λ (m : ℕ). paste out₀ 0 (minute_lines tr n ++ minute_line tr n) m) z ∙ rw add-one refl)))))

-- all of them stand at the front, and the rest of the buffer stays
pub lines_front : (out s : List ℕ) (n : ℕ) → length s ≡ n → paste out 0 s n ≡ s ++ drop (length s) out
lines_front out s n e =
    let z : 0 + n ≡ length s = omega (arith, e) in
    rw z (ap (λ (x : List ℕ). x ++ drop (length s) out) (take_all n s (omega (arith, e))))

-- they go by the events at each instant and the roles after it
pub lines_same : (n : ℕ) (a b : Trace) → ((t : ℕ) → t < n → (a.EV t ≡ b.EV t) × (a.ST (suc t) ≡ b.ST (suc t))) → minute_lines a n ≡ minute_lines b n
unfolding minute_lines minute_line
lines_same zero a b h = refl
lines_same (suc n) a b h =
    let e = h n (omega arith) in
    ap₂ ◌++◌ (lines_same n a b (λ t l. h t (omega arith))) (λ i. line_at n (e.1 i) (e.0 i))
