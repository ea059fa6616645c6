-- `tape_frames::kind_of` meets its contract: the bytes of the code are those of the definition, in the same order.
-- Assumes nothing.
use mathlib.Core.Path.{refl, sym, ◌∙◌}
use borrow.Author.Tests.{ne_eqb}
use Rattle.tape_frames.specs.Frame.{kind_in}
use Rattle.tape_frames.proofs.kind_of.Goals as goal

pub returns-in-64 : goal.returns-in-64
unfolding kind_in
returns-in-64 c =
    rw (sym c.byte_at.ensures ∙ c.in-64.is) refl

pub returns-in-241 : goal.returns-in-241
unfolding kind_in
returns-in-241 c =
    rw (sym c.byte_at.ensures ∙ c.in-241.is) refl

pub returns-in_default : goal.returns-in_default
unfolding kind_in
returns-in_default c =
    let r = c.in_default.in_default-own.rest in
    rw (ne_eqb _ _ (λ e. r.0.1 (c.byte_at.ensures ∙ e)), ne_eqb _ _ (λ e. r.1 (c.byte_at.ensures ∙ e))) refl
