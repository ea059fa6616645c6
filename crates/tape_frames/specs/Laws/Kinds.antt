-- What the kind of a frame says of its first byte.
-- Assumes nothing.
use Rattle.std.proofs.Common.{⊎_elim}
use borrow.Author.Tests.{eqb-true}
use Rattle.theory.proofs.Laws.Tests.{test}
use Rattle.std.specs.Prelude.{◌≡◌, refl, Bool, true, false, List, ℕ, eqb, Option, Some, None}
use Rattle.tables.specs.Layout.{byte_at}
use Rattle.tape_frames.specs.declared.Kind.{Kind}
use Rattle.tape_frames.specs.declared.Kind.TheVariants.{Ask, End}
use Rattle.tape_frames.specs.Frame.{ASK, TAPE_END, kind_in}

-- a kind is that of a request
unfoldable pub asks : Option Kind → Bool
asks None = false
asks (Some Ask) = true
asks (Some End) = false

-- a kind is that of the end
unfoldable pub ends : Option Kind → Bool
ends None = false
ends (Some Ask) = false
ends (Some End) = true

pub asks_said : (f : List ℕ) → asks (kind_in f) ≡ eqb (byte_at f 0) ASK
unfolding kind_in asks
asks_said f =
    ⊎_elim
    (λ (a : eqb (byte_at f 0) ASK ≡ true). rw a refl)
    (λ (a : eqb (byte_at f 0) ASK ≡ false).
    ⊎_elim
    (λ (b : eqb (byte_at f 0) TAPE_END ≡ true). rw (a, b) refl)
    (λ (b : eqb (byte_at f 0) TAPE_END ≡ false). rw (a, b) refl)
    (test (eqb (byte_at f 0) TAPE_END)))
    (test (eqb (byte_at f 0) ASK))

pub ends_said : (f : List ℕ) → ends (kind_in f) ≡ eqb (byte_at f 0) TAPE_END
unfolding kind_in ends
ends_said f =
    ⊎_elim
    (λ (a : eqb (byte_at f 0) ASK ≡ true). rw (eqb-true (byte_at f 0) ASK a) refl)
    (λ (a : eqb (byte_at f 0) ASK ≡ false).
    ⊎_elim
    (λ (b : eqb (byte_at f 0) TAPE_END ≡ true). rw (a, b) refl)
    (λ (b : eqb (byte_at f 0) TAPE_END ≡ false). rw (a, b) refl)
    (test (eqb (byte_at f 0) TAPE_END)))
    (test (eqb (byte_at f 0) ASK))
