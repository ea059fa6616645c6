-- How long what is printed is.
-- Assumes nothing.
use Rattle.std.specs.Prelude.{◌≡◌, refl, List, [], ◌∷◌, ◌++◌, ℕ, ◌+◌, ◌*◌, length}
use Rattle.std.proofs.Common.{arith, length-append}
use Rattle.text.specs.Lines.{LINE_END}
use Rattle.prints.specs.Print.{hex_of, check_of, line_of}

-- two digits a byte
pub length_hex : (f : List ℕ) → length (hex_of f) ≡ 2 * length f
length_hex [] = refl
length_hex (b ∷ f) = omega (arith, length_hex f)

-- two digits a byte, two of the check, and the line end
pub length_line : (f : List ℕ) → length (line_of f) ≡ 2 * length f + 3
length_line f =
    let g = f ++ (check_of f ∷ []) in
    omega (arith, length-append (hex_of g) (LINE_END ∷ []), length_hex g, length-append f (check_of f ∷ []))
