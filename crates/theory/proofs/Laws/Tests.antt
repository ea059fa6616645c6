-- Laws of tests: what passes, what fails, and both by parts. (`borrow.Author.Tests` has those of comparisons and of `not`.)
-- Assumes nothing.
use Rattle.std.specs.Prelude.{◌≡◌, refl, ◌⊎◌, Bool, true, false, not, ◌&&◌, ◌||◌}
use Rattle.std.proofs.Common.{sym, ap, ◌∙◌, inl, inr, true≢false}
use Rattle.std.proofs.Math.Bool.{or-false, or_comm, or_assoc}
use Rattle.std.proofs.lemmas.Bool.{false≢true, not-true, not-false}

pub and_left : (a b : Bool) → (a && b) ≡ true → a ≡ true
and_left true b h = refl
and_left false b h = h

pub and_right : (a b : Bool) → (a && b) ≡ true → b ≡ true
and_right true b h = h
and_right false b h = absurd (false≢true h)

pub and_both : {a b : Bool} → a ≡ true → b ≡ true → (a && b) ≡ true
and_both {a} {b} p q = rw p q

pub or_left : {a : Bool} (b : Bool) → a ≡ true → (a || b) ≡ true
or_left {a} b p = rw p refl

pub or_right : (a : Bool) {b : Bool} → b ≡ true → (a || b) ≡ true
or_right true p = refl
or_right false p = p

pub or_cases : (a b : Bool) → (a || b) ≡ true → (a ≡ true) ⊎ (b ≡ true)
or_cases true b h = inl refl
or_cases false b h = inr h

pub or_none_left : (a b : Bool) → (a || b) ≡ false → a ≡ false
or_none_left true b h = h
or_none_left false b h = refl

pub or_none_right : (a b : Bool) → (a || b) ≡ false → b ≡ false
or_none_right true b h = absurd (true≢false h)
or_none_right false b h = h

-- a test that fails adds nothing
pub same_or : (a b : Bool) → b ≡ false → a ≡ (a || b)
same_or a b e = rw (e, or-false) refl

-- the second of three comes first
pub or_turned : (a b c : Bool) → ((a || b) || c) ≡ (b || (a || c))
or_turned a b c = ap (λ (x : Bool). x || c) (or_comm a b) ∙ or_assoc b a c

-- a test passes or fails
pub test : (b : Bool) → (b ≡ true) ⊎ (b ≡ false)
test true = inl refl
test false = inr refl

pub not_both : {b : Bool} {C : Type 0} → b ≡ true → b ≡ false → C
not_both p q = absurd (true≢false (sym p ∙ q))

pub fails_not : {b : Bool} → b ≡ false → not b ≡ true
fails_not p = rw p refl

-- what a call said of a test t, where the code asked its negation
pub held : {r t : Bool} → r ≡ t → not r ≡ false → t ≡ true
held {r} e n = sym e ∙ not-false r n

pub fell : {r t : Bool} → r ≡ t → not r ≡ true → t ≡ false
fell {r} e n = sym e ∙ not-true r n

pub is_false : (b : Bool) → (b ≡ true → ⊥) → b ≡ false
is_false true f = absurd (f refl)
is_false false f = refl

-- two tests that pass together are the same
pub bool_ext : (a b : Bool) → (a ≡ true → b ≡ true) → (b ≡ true → a ≡ true) → a ≡ b
bool_ext true b f g = sym (f refl)
bool_ext false true f g = g refl
bool_ext false false f g = refl
