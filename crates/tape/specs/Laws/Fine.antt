-- What a tape that is accepted has: its requests go by rising instants, no more than 32 in a row are of one instant, each is within its limits, and nothing stands after the end.
-- Assumes nothing.
use Rattle.std.specs.Prelude.{◌≡◌, Bool, false, cond, ◌&&◌, Option, None, Some, eqb, is_some, is_none, length}
use Rattle.std.specs.Option.{unwrap_or}
use Rattle.std.proofs.Math.Path.{refl, ap, subst₂}
use Rattle.std.proofs.Common.{sym, ◌∙◌, subst, arith}
use Rattle.std.proofs.Math.Logic.{⊎_elim}
use Rattle.std.proofs.Math.Bool.{true}
use Rattle.std.proofs.lemmas.Bool.{false≢true}
use mathlib.Core.List.{List}
use Prim.Native.Nat.{ℕ, ◌%◌, ◌≤◌, ◌<◌}
use Rattle.std.proofs.Math.Dec.{leb}
use borrow.Author.Tests.{leb-true, eqb-true, eqb-false}
use Rattle.theory.specs.Numbers.{REQUESTS}
use Rattle.theory.specs.Sheet.{is}
use Rattle.theory.specs.Instant.{request_fits}
use Rattle.theory.proofs.Laws.Tests.{and_left, and_right, or_cases, test}
use Rattle.theory.proofs.Laws.Exists.{is_only}
use Rattle.text.specs.Lines.{Lines, none, endless, line}
use Rattle.text.specs.Framed.{first_bad, framed}
use Rattle.frames.specs.Frame.{bytes_of}
use Rattle.frames.specs.Laws.Frame.{length_bytes}
use Rattle.kinds.specs.Kinds.{kind}
use Rattle.requests.specs.Requests.{fits}
use Rattle.line_readers.specs.Walks.{Going, goes, refused, walks}
use Rattle.line_readers.specs.Laws.Walks.{no_goes, walks_first}
use Rattle.tape_frames.specs.Frame.{ASK, TAPE_END, instant_of, asked_in}
use Rattle.tape_tests.specs.declared.Heard.{Heard}
use Rattle.tape_tests.specs.Tests.{LONGEST_DAY, last_instant, tape_size, of_tape, in_time, ask_fits}
use Rattle.tape.specs.Tape.{many_with, heard_after, tape_ends, tape_reader, line_asks, asks_in}
use Rattle.tape.specs.Fine.{is_ask, at, more, Fine}
use Rattle.tape.specs.Laws.Line.{Passed, took_line, room_says}

where_true : {A : Type 0} (b : Bool) (x y : A) → b ≡ true → cond b x y ≡ x
where_true b x y e = rw e refl

-- what a line that asks says
pub line_asks_lem : (l : List ℕ) (u d e p : ℕ) → line_asks l u d e p ≡ true
    → (is_ask l ≡ true) × (at l ≡ u) × ((asked_in (bytes_of l)).delay ≡ d) × (is (asked_in (bytes_of l)).event (asked_in (bytes_of l)).priority e p ≡ true)
unfolding line_asks
line_asks_lem l u d e p h =
    let f : List ℕ = bytes_of l in
    let i : Bool = is (asked_in f).event (asked_in f).priority e p in
    let x = and_left (eqb (kind f) ASK && eqb (instant_of f) u) (eqb (asked_in f).delay d && i) h in
    let y = and_right (eqb (kind f) ASK && eqb (instant_of f) u) (eqb (asked_in f).delay d && i) h in (
      and_left (eqb (kind f) ASK) (eqb (instant_of f) u) x,
      eqb-true (instant_of f) u (and_right (eqb (kind f) ASK) (eqb (instant_of f) u) x),
      eqb-true (asked_in f).delay d (and_left (eqb (asked_in f).delay d) i y),
      and_right (eqb (asked_in f).delay d) i y,
    )

-- after a request, and after the end
module _ (s : Heard) (f : List ℕ) where
  after_ask : eqb (kind f) ASK ≡ true → ((heard_after s f).end ≡ None) × ((heard_after s f).instant ≡ instant_of f) × ((heard_after s f).many ≡ more s.instant s.many (instant_of f))
  unfolding heard_after many_with
  after_ask k = rw k (refl, refl, refl)

  after_end_lem : eqb (kind f) ASK ≡ false → (heard_after s f).end ≡ Some (instant_of f)
  unfolding heard_after
  after_end_lem k = rw k refl

-- a frame has a byte
some_byte : (l : List ℕ) → framed l ≡ true → 1 ≤ length (bytes_of l)
unfolding framed
some_byte l h =
    ⊎_elim
    (λ (a : eqb (length l) 0 ≡ true). absurd (false≢true (rw a at h)))
    (λ (a : eqb (length l) 0 ≡ false).
    ⊎_elim
    (λ (b : eqb (first_bad l) (length l) ≡ true).
    let c : length l % 2 ≡ 0 = eqb-true (length l % 2) 0 (rw (a, b) at h) in
    omega (arith, length_bytes l, c, eqb-false (length l) 0 a))
    (λ (b : eqb (first_bad l) (length l) ≡ false). absurd (false≢true (rw (a, b) at h)))
    (test (eqb (first_bad l) (length l))))
    (test (eqb (length l) 0))

-- what passed and is no request is the end
is_end : (roles : ℕ) (s : Heard) (l : List ℕ) → Passed roles s l → is_ask l ≡ false → kind (bytes_of l) ≡ TAPE_END
unfolding of_tape tape_size
is_end roles s l p k =
    let f : List ℕ = bytes_of l in
    ⊎_elim
    (λ (e : eqb (kind f) TAPE_END ≡ true). eqb-true (kind f) TAPE_END e)
    (λ (e : eqb (kind f) TAPE_END ≡ false).
    let q : eqb (length f) (tape_size (kind f)) ≡ true = and_left (eqb (length f) (tape_size (kind f))) (is_none s.end) p.of_tape in
    let z : eqb (length f) 0 ≡ true = rw (k, e) at q in
    absurd (omega (arith, eqb-true (length f) 0 z, some_byte l p.is_framed)))
    (test (eqb (kind f) TAPE_END))

module _ (roles : ℕ) (z : Heard) where
  -- from here on the lines go on to their end
  abbrev GoesOn : Heard → Lines → Type 0
  GoesOn s ls = walks (tape_reader roles) (goes s) ls ≡ goes z

  -- the first of them passed, and the others go on
  record First (s : Heard) (l : List ℕ) (ls : Lines) : Type 0 where
    passed : Passed roles s l
    others : GoesOn (heard_after s (bytes_of l)) ls

  first_of : (s : Heard) (l : List ℕ) (ls : Lines) → GoesOn s (line l ls) → First s l ls
  first_of s l ls h =
      let x = walks_first (tape_reader roles) s z l ls h in
      let t = took_line roles s x.0 l x.1 in
      record { passed = t.0; others = subst (λ (y : Heard). GoesOn y ls) (sym t.1) x.2 }

  -- nothing stands after the end
  ended_none : (s : Heard) (ls : Lines) → is_some s.end ≡ true → GoesOn s ls → ls ≡ none
  unfolding walks of_tape
  ended_none s none e h = refl
  ended_none s (endless l) e h = no_goes _ z h
  ended_none s (line l ls) e h =
      let p = and_right (eqb _ (tape_size (kind (bytes_of l)))) (is_none s.end) (first_of s l ls h).passed.of_tape in
      absurd (false≢true (rw e at p))

  -- THE LAW
  pub accepted_fine : (s : Heard) (ls : Lines) → GoesOn s ls → Fine roles s.instant s.many ls
  unfolding in_time ask_fits
  accepted_fine s none h = tt
  accepted_fine s (endless l) h = tt
  accepted_fine s (line l ls) h =
      let f : List ℕ = bytes_of l in
      let x : First s l ls = first_of s l ls h in
      let ask : is_ask l ≡ true → (s.instant ≤ at l) × (at l ≡ s.instant → s.many < REQUESTS) × (fits roles (asked_in f) ≡ true) × Fine roles (at l) (more s.instant s.many (at l)) ls =
      λ k.
      let a = after_ask s f k in
      let g = accepted_fine (heard_after s f) ls x.others in
      let q : ask_fits roles f ≡ true = x.passed.fit in (
        from_time s f (eqb-true (kind f) ASK k) x.passed.in_time,
        room_says s f x.passed.room (eqb-true (kind f) ASK k),
        (rw k at q),
        subst₂ (λ (t n : ℕ). Fine roles t n ls) a.1 a.2 g,
      ) in
      (ask, λ k. ended_none (heard_after s f) ls (ap is_some (after_end_lem s f k)) x.others)
    where
      from_time : (s : Heard) (f : List ℕ) → kind f ≡ ASK → in_time s f ≡ true → s.instant ≤ instant_of f
      from_time s f k h = leb-true _ _ (rw k at h)

  -- the last instant is within its limit
  pub accepted_last : (s : Heard) (ls : Lines) → s.end ≡ None → GoesOn s ls → last_instant z ≤ LONGEST_DAY
  unfolding walks tape_ends in_time
  accepted_last s none e h = no_goes _ z (rw e at h)
  accepted_last s (endless l) e h = no_goes _ z h
  accepted_last s (line l ls) e h =
      let f : List ℕ = bytes_of l in
      let x : First s l ls = first_of s l ls h in
      ⊎_elim
      (λ (k : is_ask l ≡ true). accepted_last (heard_after s f) ls (after_ask s f k).0 x.others)
      (λ (k : is_ask l ≡ false).
      let n = heard_after s f in
      let a = after_end_lem s f k in
      let there : is_some n.end ≡ true = ap is_some a in
      let e : kind f ≡ TAPE_END = is_end roles s l x.passed k in
      let w : n ≡ z = ends n there (subst (λ (y : Lines). GoesOn n y) (ended_none n ls there x.others) x.others) in
      let i : leb (instant_of f) LONGEST_DAY ≡ true = and_right (leb s.instant (instant_of f)) (leb (instant_of f) LONGEST_DAY) (at_end_lem s f e x.passed.in_time) in
      omega (arith, leb-true (instant_of f) LONGEST_DAY i, ap (λ (o : Option ℕ). unwrap_or o 0) a, ap last_instant w))
      (test (is_ask l))
    where
      at_end_lem : (s : Heard) (f : List ℕ) → kind f ≡ TAPE_END → in_time s f ≡ true → (leb s.instant (instant_of f) && leb (instant_of f) LONGEST_DAY) ≡ true
      at_end_lem s f k h = rw k at h

      ends : (n : Heard) → is_some n.end ≡ true → walks (tape_reader roles) (goes n) none ≡ goes z → n ≡ z
      ends n e h = let g : ◌≡◌ {A = Going Heard} (goes n) (goes z) = sym (where_true (is_some n.end) (goes n) (refused _) e) ∙ h in cc

-- every request of such lines is within its limits
pub fine_within : (roles t n : ℕ) (ls : Lines) → Fine roles t n ls → (u d e p : ℕ) → asks_in ls u d e p ≡ true → request_fits roles d e p ≡ true
unfolding asks_in
fine_within roles t n none g u d e p h = absurd (false≢true h)
fine_within roles t n (endless l) g u d e p h = absurd (false≢true h)
fine_within roles t n (line l ls) g u d e p h =
    ⊎_elim
    (λ (a : line_asks l u d e p ≡ true).
    let q = line_asks_lem l u d e p a in
    is_only (request_fits roles d) (asked_in (bytes_of l)).event (asked_in (bytes_of l)).priority e p q.3
    (subst (λ (x : ℕ). request_fits roles x (asked_in (bytes_of l)).event (asked_in (bytes_of l)).priority ≡ true) q.2 (g.0 q.0).2))
    (λ (b : asks_in ls u d e p ≡ true).
    ⊎_elim
    (λ (k : is_ask l ≡ true). fine_within roles (at l) (more t n (at l)) ls (g.0 k).3 u d e p b)
    (λ (k : is_ask l ≡ false). absurd (false≢true (subst (λ (x : Lines). asks_in x u d e p ≡ true) (g.1 k) b)))
    (test (is_ask l)))
    (or_cases (line_asks l u d e p) (asks_in ls u d e p) h)
