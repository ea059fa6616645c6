-- Contracts that leave one possible answer: any two that they allow are equal.
-- Assumes nothing.
use Rattle.std.specs.Prelude.{◌≡◌}

-- What a contract gives by an equation is one: the exactness of every such contract is this law.
pub exact : {A : Type 0} {v r r' : A} → r ≡ v → r' ≡ v → r ≡ r'
exact p q = cc
