-- The tests of a frame's fields, each by the frame's own bytes: the test of field i looks at the bytes that begin at `field_byte`.
-- Assumes nothing.
use Rattle.std.specs.Prelude.{◌≡◌, Bool, ◌&&◌, ltb, eqb}
use Rattle.std.proofs.Math.Path.{refl, ap}
use Rattle.std.proofs.Common.{sym, ap₂, ◌∙◌, zero-add, lt-ltb}
use mathlib.Core.List.{List, [], ◌∷◌, ◌++◌, append_assoc}
use Prim.Native.Nat.{ℕ, zero, suc, ◌+◌, ◌≤◌, ◌<◌}
use native.Mathlib.Omega.{arith}
use Rattle.std.proofs.Math.Dec.{leb}
use Rattle.theory.specs.Numbers.{ROLES, LAST_INSTANT, LONGEST_PERIOD, BODY_EVENTS, BODY_CONDITIONS}
use Rattle.theory.specs.Below.{tests_below}
use Rattle.theory.specs.Sheet.{of_roles, is_priority, end_fits, event_tests}
use Rattle.tables.specs.Layout.{byte_at, two, four, periodic_at, trigger_from, trigger_at}
use Rattle.periodic_frames.specs.Row.{periodic_row}
use Rattle.trigger_frames.specs.Row.{placed, event_place, condition_place, last_place, trigger_row}
use Rattle.kinds.specs.Kinds.{HEADER, PERIODIC, TRIGGER}
use Rattle.fields.specs.Fields.{VERSION, frame_tests}

pub header_bytes : (roles : ℕ) (f : List ℕ) → frame_tests HEADER roles f ≡ eqb (byte_at f 1) VERSION ∷ (leb 1 (byte_at f 2) && leb (byte_at f 2) ROLES) ∷ []
header_bytes roles f = refl

pub periodic_bytes : (roles : ℕ) (f : List ℕ) → frame_tests PERIODIC roles f
    ≡ leb (four f 1) LAST_INSTANT
    ∷ end_fits (four f 1) (four f 5)
    ∷ (leb 1 (two f 9) && leb (two f 9) LONGEST_PERIOD)
    ∷ ltb (two f 11) (two f 9)
    ∷ (leb 1 (two f 13) && leb (two f 13) (two f 9))
    ∷ of_roles roles (byte_at f 15)
    ∷ is_priority (byte_at f 16)
    ∷ []
unfolding periodic_at periodic_row
periodic_bytes roles f = refl

-- ---- a trigger

-- tests that are the same below n are one list
tests_same : (n : ℕ) (f g : ℕ → Bool) → ((j : ℕ) → j < n → f j ≡ g j) → tests_below n f ≡ tests_below n g
tests_same zero f g h = refl
tests_same (suc n) f g h = ap₂ (λ (t : Bool) (ts : List Bool). t ∷ ts) (h 0 (omega arith)) (tests_same n (λ i. f (suc i)) (λ i. g (suc i)) (λ j l. h (suc j) (omega arith)))

-- the tests below a, and those of the b numbers after them
tests_join : (a b : ℕ) (f : ℕ → Bool) → tests_below a f ++ tests_below b (λ j. f (a + j)) ≡ tests_below (a + b) f
tests_join zero b f = tests_same b (λ j. f (0 + j)) f (λ j l. ap f (zero-add j)) ∙ ap (λ (n : ℕ). tests_below n f) (sym (zero-add b))
tests_join (suc a) b f =
    let e : suc a + b ≡ suc (a + b) = omega arith in
    ap (λ (ts : List Bool). f 0 ∷ (tests_below a (λ i. f (suc i)) ++ ts)) (tests_same b (λ j. f (suc a + j)) (λ j. f (suc (a + j))) (λ j l. let q : suc a + j ≡ suc (a + j) = omega arith in ap f q))
    ∙ ap (λ (ts : List Bool). f 0 ∷ ts) (tests_join a b (λ i. f (suc i)))
    ∙ ap (λ (n : ℕ). tests_below n f) (sym e)

module _ (roles : ℕ) (f : List ℕ) (few : byte_at f 1 ≤ BODY_EVENTS) (fits : byte_at f 2 ≤ BODY_CONDITIONS) where
  abbrev e : ℕ
  e = byte_at f 1

  abbrev c : ℕ
  c = byte_at f 2

  -- an event or a condition of the row is the frame's own byte
  event_byte : (j : ℕ) → j < e → (trigger_at (trigger_row f) 0).event j ≡ byte_at f (3 + j)
  unfolding trigger_from trigger_row event_place placed
  event_byte zero h = rw (lt-ltb 0 e h) refl
  event_byte (suc zero) h = rw (lt-ltb 1 e h) refl
  event_byte (suc (suc zero)) h = rw (lt-ltb 2 e h) refl
  event_byte (suc (suc (suc zero))) h = rw (lt-ltb 3 e h) refl
  event_byte (suc (suc (suc (suc j)))) h = absurd (omega arith)

  condition_byte : (j : ℕ) → j < c → (trigger_at (trigger_row f) 0).condition j ≡ byte_at f (3 + e + j)
  unfolding trigger_from trigger_row condition_place placed
  condition_byte zero h = rw (lt-ltb 0 c h) refl
  condition_byte (suc zero) h = rw (lt-ltb 1 c h) refl
  condition_byte (suc (suc zero)) h = rw (lt-ltb 2 c h) refl
  condition_byte (suc (suc (suc zero))) h = rw (lt-ltb 3 c h) refl
  condition_byte (suc (suc (suc (suc j)))) h = absurd (omega arith)

  -- one after the other
  abbrev foreign : ℕ → Bool
  foreign j = of_roles roles (byte_at f (3 + j))

  body : tests_below e (λ j. of_roles roles ((trigger_at (trigger_row f) 0).event j)) ++ tests_below c (λ j. of_roles roles ((trigger_at (trigger_row f) 0).condition j)) ≡ tests_below (e + c) foreign
  body =
      ap₂ (λ (a b : List Bool). a ++ b)
      (tests_same e _ foreign (λ j l. ap (of_roles roles) (event_byte j l)))
      (tests_same c _ (λ j. foreign (e + j)) (λ j l. ap (of_roles roles) (condition_byte j l) ∙ (let q : 3 + e + j ≡ 3 + (e + j) = omega arith in ap (λ (k : ℕ). of_roles roles (byte_at f k)) q)))
      ∙ tests_join e c foreign

  -- the head, at this byte, and what follows it
  abbrev last_at : ℕ → List Bool
  last_at k = event_tests roles (byte_at f k) (byte_at f (3 + e + c + 1)) (byte_at f (3 + e + c + 2))

  pub trigger_bytes : frame_tests TRIGGER roles f
      ≡ (leb 1 e && leb e BODY_EVENTS) ∷ leb c BODY_CONDITIONS ∷ (tests_below (e + c) (λ j. of_roles roles (byte_at f (3 + j)))
      ++ event_tests roles (byte_at f (3 + e + c)) (byte_at f (3 + e + c + 1)) (byte_at f (3 + e + c + 2)))
  unfolding trigger_from trigger_row last_place
  trigger_bytes =
      let q : 3 + e + c + 0 ≡ 3 + e + c = omega arith in
      ap (λ (ts : List Bool). (leb 1 e && leb e BODY_EVENTS) ∷ leb c BODY_CONDITIONS ∷ ts)
      (sym (append_assoc (tests_below e (λ j. of_roles roles ((trigger_at (trigger_row f) 0).event j))) (tests_below c (λ j. of_roles roles ((trigger_at (trigger_row f) 0).condition j))) (last_at (3 + e + c + 0)))
      ∙ ap (λ (ts : List Bool). ts ++ last_at (3 + e + c + 0)) body
      ∙ ap (λ (k : ℕ). tests_below (e + c) foreign ++ last_at k) q)
