-- Laws of what is put into the buffer, one text behind the other.
-- Assumes nothing.
use Rattle.std.specs.Prelude.{◌≡◌, refl, List, [], ◌++◌, ℕ, zero, suc, ◌+◌, ◌-◌, ◌*◌, ◌≤◌, ◌<◌, length, take, drop}
use Rattle.std.proofs.Common.{sym, ap, ap₂, ◌∙◌, subst, add-one, arith, length-append}
use Rattle.std.proofs.Math.Nat.{mul-suc, mul-le-mul_left}
use Rattle.std.proofs.Math.Seq.{paste, paste-zero, take-length}
use Rattle.tables.specs.Layout.{byte_at}
use Rattle.prints.specs.Print.{line_of}
use Rattle.prints.specs.Laws.Pasted.{paste_append}
use Rattle.writer.specs.Laws.Long.{periodic_short, trigger_short}
use Rattle.writer.specs.Made.{body_size, trigger_whole, body_frame, trigger_frame, text_below, periodic_text, trigger_text, Puts, FewInBodies}

-- nothing was put yet
pub puts_none : (d : List ℕ) (at : ℕ) → Puts d at [] d at
puts_none d at = record { buffer = paste-zero d at []; place = omega arith }

-- one behind the other
pub puts_both : (d a d₁ b d₂ : List ℕ) (at to end : ℕ) → Puts d at a d₁ to → Puts d₁ to b d₂ end → at + (length a + length b) ≤ length d → Puts d at (a ++ b) d₂ end
puts_both d a d₁ b d₂ at to end x y h =
    record {
      buffer =
          y.buffer
          ∙ ap₂ (λ (r : List ℕ) (k : ℕ). paste r k b (length b)) x.buffer x.place
          ∙ paste_append d a b at (length a) (length b) refl refl h
          ∙ ap (λ (n : ℕ). paste d at (a ++ b) n) (sym (length-append a b));
      place = omega (arith, x.place, y.place, length-append a b);
    }

-- as many lines, none longer than w
pub text_short : (w n : ℕ) (line : ℕ → List ℕ) → ((i : ℕ) → i < n → length (line i) ≤ w) → length (text_below n line) ≤ w * n
text_short w zero line h = omega arith
text_short w (suc n) line h =
    let m : length (text_below n line) ≤ w * n = text_short w n line (λ i l. h i (omega arith)) in
    omega (arith, length-append (text_below n line) (line n), h n (omega arith))

-- one row more of the first n has room
pub one_more : (w i n : ℕ) → i < n → w * i + w ≤ w * n
one_more w i n h = let e : w * suc i ≡ w * i + w = mul-suc w i in omega (arith, e, mul-le-mul_left w h)

-- one line more
pub puts_next : (d d₁ d₂ : List ℕ) (at to end i : ℕ) (line : ℕ → List ℕ) → Puts d at (text_below i line) d₁ to → Puts d₁ to (line i) d₂ end
    → at + (length (text_below i line) + length (line i)) ≤ length d → Puts d at (text_below (i + 1) line) d₂ end
puts_next d d₁ d₂ at to end i line x y h = rw add-one (puts_both d (text_below i line) d₁ (line i) d₂ at to end x y h)

-- all of them
pub puts_end : (d d' : List ℕ) (at to i n : ℕ) (line : ℕ → List ℕ) → Puts d at (text_below i line) d' to → i ≡ n → Puts d at (text_below n line) d' to
puts_end d d' at to i n line x e = subst (λ (k : ℕ). Puts d at (text_below k line) d' to) e x

-- at the front of the buffer: the text, and what lay past it
pub puts_front : (d text d' : List ℕ) (to : ℕ) → Puts d 0 text d' to → d' ≡ text ++ drop (length text) d
puts_front d text d' to x =
    let z : 0 + length text ≡ length text = omega arith in
    x.buffer ∙ ap₂ (λ (r : List ℕ) (k : ℕ). r ++ drop k d) (take-length text) z

-- ---- the lines of rows

-- the line of a frame that is another in other words
pub puts_frame : (d : List ℕ) (at : ℕ) (f g d' : List ℕ) (to : ℕ) → f ≡ g → Puts d at (line_of f) d' to → Puts d at (line_of g) d' to
puts_frame d at f g d' to e x = subst (λ (h : List ℕ). Puts d at (line_of h) d' to) e x

-- a count, read where the row begins, in other words
pub count_said : (table : List ℕ) (from at x e : ℕ) → from ≡ at → x ≡ byte_at table from → e ≡ x → e ≡ byte_at table at
count_said table from at x e f b h = h ∙ b ∙ ap (byte_at table) f

-- the first bytes of the longest frame, as many as the counts say
pub part_said : (table frame : List ℕ) (at e c size : ℕ) → frame ≡ trigger_whole table at e c → size ≡ body_size e c → take (size - 0) (drop 0 frame) ≡ body_frame table at e c
part_said table frame at e c size w z =
    let s : size - 0 ≡ body_size e c = omega arith in
    λ i. take (s i) (w i)

-- are the row's frame, with the counts that stand in it
pub body_said : (table : List ℕ) (from at e c : ℕ) → from ≡ at → e ≡ byte_at table at → c ≡ byte_at table (at + 1) → body_frame table from e c ≡ trigger_frame table at
unfolding trigger_frame
body_said table from at e c f p q i = body_frame table (f i) (p i) (q i)

pub periodics_short : (table : List ℕ) (n : ℕ) → length (text_below n (periodic_text table)) ≤ 37 * n
periodics_short table n = text_short 37 n (periodic_text table) (λ i l. periodic_short table i _)

pub triggers_short : (table : List ℕ) (n : ℕ) → FewInBodies table n → length (text_below n (trigger_text table)) ≤ 31 * n
triggers_short table n few = text_short 31 n (trigger_text table) (λ i l. trigger_short table i (few i l))
