-- The tape under a run: the requests that a minute takes are those of its instant, all of them and no more than 32, and what is left goes on with the next.
-- Assumes nothing.
use Rattle.std.specs.Prelude.{◌≡◌, refl, true, false, ◌&&◌, List, ℕ, suc, ◌+◌, ◌≤◌, ◌<◌, ltb, length}
use Rattle.std.proofs.Math.Path.{ap}
use Rattle.std.proofs.Common.{ap₂, ◌∙◌, subst, ⊎_elim, arith, ltb-true, lt-ltb, eqb-true, eq-eqb, ne_eqb}
use Rattle.std.proofs.Math.Bool.{Bool, ◌||◌}
use Rattle.std.proofs.Math.Numerals.{add-one}
use Rattle.std.proofs.Math.Dec.{eqb}
use Rattle.theory.specs.Numbers.{REQUESTS}
use Rattle.theory.specs.Below.{any_below}
use Rattle.theory.specs.Sheet.{is}
use Rattle.theory.proofs.Laws.Tests.{and_left, and_right, and_both, test, is_false, not_both, same_or, or_turned}
use Rattle.theory.proofs.Laws.Below.{below_cases, any_same}
use Rattle.text.specs.Lines.{Lines, none, endless, line}
use Rattle.frames.specs.Frame.{bytes_of}
use Rattle.tables.specs.Asked.{Request, request_at, flat, asks}
use Rattle.requests.specs.Requests.{fits, AllFit}
use Rattle.requests.specs.Flat.{FLAT_NUMBERS, put_at}
use Rattle.requests.specs.Laws.Flat.{put_before, put_here, put_size}
use Rattle.tape_frames.specs.Frame.{asked_in}
use Rattle.tape.specs.Tape.{line_asks, asks_in}
use Rattle.tape.specs.Fine.{is_ask, at, more, Fine}
use Rattle.tape.specs.Laws.Fine.{line_asks_lem}
use Rattle.tape_batches.specs.declared.Batch.{Batch}
use Rattle.tape_batches.specs.Batch.{is_of, taken, takes, rest, none_yet}
use Rattle.day_run.specs.Run.{Cursor}

-- ---- lines that go on after instant t ask nothing at t

quiet : (roles v n t : ℕ) (ls : Lines) → Fine roles v n ls → t < v → (d e p : ℕ) → asks_in ls t d e p ≡ false
unfolding asks_in
quiet roles v n t none g l d e p = refl
quiet roles v n t (endless x) g l d e p = refl
quiet roles v n t (line x ls) g l d e p =
    ⊎_elim
    (λ (k : is_ask x ≡ true).
    let a = g.0 k in
    let no : line_asks x t d e p ≡ false = is_false (line_asks x t d e p) (λ h. let z : at x ≡ t = (line_asks_lem x t d e p h).1 in omega (arith, z, a.0)) in
    rw no (quiet roles (at x) (more v n (at x)) t ls a.3 (omega (arith, a.0)) d e p))
    (λ (k : is_ask x ≡ false).
    let no : line_asks x t d e p ≡ false = is_false (line_asks x t d e p) (λ h. not_both (line_asks_lem x t d e p h).0 k) in
    rw (no, g.1 k) refl)
    (test (is_ask x))

-- ---- the first line is of another instant, or no request

more_other : (t n u : ℕ) → (u ≡ t → ⊥) → more t n u ≡ more (suc t) 0 u
more_other t n u o =
    rw (ne_eqb u t o) (⊎_elim (λ (k : eqb u (suc t) ≡ true). rw k refl) (λ (k : eqb u (suc t) ≡ false). rw k refl) (test (eqb u (suc t))))

step_over : (roles t n : ℕ) (l : List ℕ) (ls : Lines) → Fine roles t n (line l ls) → (is_of t l && ltb n REQUESTS) ≡ false → Fine roles (suc t) 0 (line l ls)
unfolding is_of
step_over roles t n l ls g o = (
  (λ k.
      let a = g.0 k in
      let other : at l ≡ t → ⊥ = λ e. not_both (and_both (and_both k (eq-eqb (at l) t e)) (lt-ltb n REQUESTS (a.1 e))) o in
      (omega (arith, a.0, other), (λ e. omega arith), a.2, subst (λ (m : ℕ). Fine roles (at l) m ls) (more_other t n (at l) other) a.3)),
  g.1,
)

-- ---- the requests of an instant

-- after b the lines give c, all requests of instant t being taken, and some lines are left
record Drawn (roles t : ℕ) (ls : Lines) (b c : Batch) (left : Lines) : Type 0 where
  pub few : c.count ≤ REQUESTS
  pub fit : AllFit roles (flat c.asked c.count)
  pub asked : (d e p : ℕ) → asks (flat c.asked c.count) d e p ≡ (asks (flat b.asked b.count) d e p || asks_in ls t d e p)
  pub fine : Fine roles (suc t) 0 left
  pub later : (u d e p : ℕ) → t < u → asks_in left u d e p ≡ asks_in ls u d e p

-- what was taken so far
record Sound (roles t : ℕ) (ls : Lines) (b : Batch) : Type 0 where
  size : length b.asked ≡ FLAT_NUMBERS
  few : b.count ≤ REQUESTS
  fit : AllFit roles (flat b.asked b.count)
  fine : Fine roles t b.count ls

-- one request more
module _ (roles : ℕ) (b : Batch) (r : Request) (size : length b.asked ≡ FLAT_NUMBERS) (room : b.count < REQUESTS) where
  abbrev with_it : List ℕ
  with_it = put_at b.asked b.count r

  more_fit : fits roles r ≡ true → AllFit roles (flat b.asked b.count) → AllFit roles (flat with_it (b.count + 1))
  more_fit f h i l =
      ⊎_elim
      (λ (e : i ≡ b.count). rw e (ap (fits roles) (put_here b.asked b.count r size room) ∙ f))
      (λ (k : i < b.count). ap (fits roles) (put_before b.asked b.count r i k) ∙ h i k)
      (below_cases (omega arith))

  more_asked : (d e p : ℕ) → asks (flat with_it (b.count + 1)) d e p ≡ ((eqb r.delay d && is r.event r.priority e p) || asks (flat b.asked b.count) d e p)
  unfolding asks any_below
  more_asked d e p =
      let of : Request → Bool = λ q. eqb q.delay d && is q.event q.priority e p in
      rw add-one
      (ap₂ ◌||◌ (ap of (put_here b.asked b.count r size room))
      (any_same b.count (λ k. of (request_at with_it k)) (λ k. of (request_at b.asked k)) (λ k l. ap of (put_before b.asked b.count r k l))))

-- what the line asks comes first, or last
one_more : (x : List ℕ) (t d e p : ℕ) (a r : Bool) → is_ask x ≡ true → eqb (at x) t ≡ true
    → (((eqb (asked_in (bytes_of x)).delay d && is (asked_in (bytes_of x)).event (asked_in (bytes_of x)).priority e p) || a) || r) ≡ (a || (line_asks x t d e p || r))
unfolding line_asks
one_more x t d e p a r k i =
    rw (k, i) (or_turned (eqb (asked_in (bytes_of x)).delay d && is (asked_in (bytes_of x)).event (asked_in (bytes_of x)).priority e p) a r)

drawn : (roles t : ℕ) (ls : Lines) (b : Batch) → Sound roles t ls b → Drawn roles t ls b (takes t ls b) (rest t ls b.count)
unfolding takes rest asks_in is_of line_asks
drawn roles t none b s = record { few = s.few; fit = s.fit; asked = λ d e p. same_or _ _ refl; fine = tt; later = λ u d e p l. refl }
drawn roles t (endless x) b s = record { few = s.few; fit = s.fit; asked = λ d e p. same_or _ _ refl; fine = tt; later = λ u d e p l. refl }
drawn roles t (line x ls) b s =
    ⊎_elim
    (λ (h : (is_of t x && ltb b.count REQUESTS) ≡ true).
    let k : is_ask x ≡ true = and_left (is_ask x) (eqb (at x) t) (and_left (is_of t x) (ltb b.count REQUESTS) h) in
    let i : eqb (at x) t ≡ true = and_right (is_ask x) (eqb (at x) t) (and_left (is_of t x) (ltb b.count REQUESTS) h) in
    let room : b.count < REQUESTS = ltb-true b.count REQUESTS (and_right (is_of t x) (ltb b.count REQUESTS) h) in
    let a = s.fine.0 k in
    let q : Request = asked_in (bytes_of x) in
    let f : Fine roles t (b.count + 1) ls = rw (i, eqb-true (at x) t i) at a.3 in
    let n : Sound roles t ls (taken b x) = record {
      size = put_size b.asked b.count q ∙ s.size;
      few = omega arith;
      fit = more_fit roles b q s.size room a.2 s.fit;
      fine = f;
    } in
    let y : Drawn roles t ls (taken b x) (takes t ls (taken b x)) (rest t ls (b.count + 1)) = drawn roles t ls (taken b x) n in
    rw h
    record {
      few = y.few;
      fit = y.fit;
      asked = λ d e p. y.asked d e p ∙ (ap (λ (z : Bool). z || asks_in ls t d e p) (more_asked roles b q s.size room d e p) ∙ one_more x t d e p (asks (flat b.asked b.count) d e p) (asks_in ls t d e p) k i);
      fine = y.fine;
      later = λ u d e p l. y.later u d e p l ∙ rw (k, ne_eqb (at x) u (λ z. omega (arith, z, eqb-true (at x) t i))) refl;
    })
    (λ (h : (is_of t x && ltb b.count REQUESTS) ≡ false).
    let g : Fine roles (suc t) 0 (line x ls) = step_over roles t b.count x ls s.fine h in
    rw h
    record {
      few = s.few;
      fit = s.fit;
      asked = λ d e p. same_or _ _ (quiet roles (suc t) 0 t (line x ls) g (omega arith) d e p);
      fine = g;
      later = λ u d e p l. refl;
    })
    (test (is_of t x && ltb b.count REQUESTS))

-- ---- the cursor

pub cursor_start : (roles : ℕ) (whole : Lines) → Fine roles 0 0 whole → Cursor roles 0 whole whole
cursor_start roles whole g = record { fine = g; same = λ u d e p l. refl }

-- what a minute takes
pub record Taken (roles t : ℕ) (whole : Lines) (b : Batch) (left : Lines) : Type 0 where
  pub few : b.count ≤ REQUESTS
  pub fit : AllFit roles (flat b.asked b.count)
  pub asked : (d e p : ℕ) → asks (flat b.asked b.count) d e p ≡ asks_in whole t d e p
  pub cursor : Cursor roles (suc t) whole left

-- THE LAW
pub cursor_next : (roles t : ℕ) (whole ls : Lines) (k : ℕ) → Cursor roles t whole ls → Taken roles t whole (takes t ls (none_yet k)) (rest t ls 0)
unfolding asks any_below
cursor_next roles t whole ls k c =
    let y = drawn roles t ls (none_yet k) (record { size = refl; few = omega arith; fit = λ i l. absurd (omega arith); fine = c.fine }) in
    record {
      few = y.few;
      fit = y.fit;
      asked = λ d e p. y.asked d e p ∙ c.same t d e p (omega arith);
      cursor = record { fine = y.fine; same = λ u d e p l. y.later u d e p (omega arith) ∙ c.same u d e p (omega arith) };
    }
