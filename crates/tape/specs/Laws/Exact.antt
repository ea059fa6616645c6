-- The contract of this crate's public function leaves one possible answer: any two that it allows are equal.
-- Assumes nothing.
use Rattle.std.specs.Prelude.{◌≡◌, List, ℕ, Err, Ok, Result}
use Rattle.std.proofs.Common.{arith}
use Rattle.theory.proofs.Laws.Exact.{exact}
use Rattle.tape.specs.Tape.{tape_read}
use Rattle.tape.specs.Took.{took}
use Rattle.answers.specs.declared.Refusal.{Refusal}
use Rattle.tape_tests.specs.declared.Heard.{Heard}

took_one : (r r' : Result Heard Refusal) → took r ≡ took r' → r ≡ r'
took_one (Ok s) (Ok s') e = cc
took_one (Ok s) (Err r) e = absurd (let z : ◌≡◌ {A = ℕ} 0 1 = cc in omega arith)
took_one (Err r) (Ok s) e = absurd (let z : ◌≡◌ {A = ℕ} 0 1 = cc in omega arith)
took_one (Err r) (Err r') e = cc

pub read_tape_exact : (tape : List ℕ) (roles before : ℕ) (r r' : Result Heard Refusal) → took r ≡ tape_read roles before tape → took r' ≡ tape_read roles before tape → r ≡ r'
read_tape_exact tape roles before r r' h h' = took_one r r' (exact h h')
