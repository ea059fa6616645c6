-- Digits and numbers of the form of second/FORMAT.md, upper-case hexadecimal with the high digit first; and what a form asks of a line.
-- Assumes nothing.
use Rattle.std.specs.Prelude.{Bool, cond, List, ℕ, zero, suc, ◌+◌, ◌*◌, ◌-◌, ◌%◌, ltb, eqb, length, Option, Some, None}
use Rattle.std.specs.Option.{unwrap_or, is_some}
use Rattle.theory.specs.Below.{all_below}
use Rattle.tables.specs.Layout.{byte_at}

-- what a digit stands for, if it is one
unfoldable pub value_of : ℕ → Option ℕ
value_of b = cond (ltb b 48) None (cond (ltb b 58) (Some (b - 48)) (cond (ltb b 65) None (cond (ltb b 71) (Some (b - 55)) None)))

-- the digit of a value
unfoldable pub glyph_of : ℕ → ℕ
glyph_of d = cond (ltb d 10) (48 + d) (55 + d)

-- a number with one digit more: of more than sixteen digits the last sixteen count, and what is no digit counts as 0
unfoldable pub with_digit : ℕ → ℕ → ℕ
with_digit v b = 16 * (v % 1152921504606846976) + unwrap_or (value_of b) 0

-- the number that n bytes of a line say, from `from` on
abbrev pub number_of : List ℕ → ℕ → ℕ → ℕ
number_of line from zero = 0
number_of line from (suc n) = with_digit (number_of line from n) (byte_at line (from + n))

-- a byte is as a form asks: any digit where the form has 0, else the form's own byte
unfoldable pub as_form : ℕ → ℕ → Bool
as_form b form = cond (eqb form 48) (is_some (value_of b)) (eqb b form)

-- a line begins as a form asks
abbrev pub fits_form : List ℕ → List ℕ → Bool
fits_form line form = all_below (length form) (λ (i : ℕ). as_form (byte_at line i) (byte_at form i))
