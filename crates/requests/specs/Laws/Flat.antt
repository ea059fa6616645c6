-- Laws of flat numbers: a request that is put in is there, and those before it stay.
-- Assumes nothing.
use Rattle.std.specs.Prelude.{◌≡◌}
use Rattle.std.proofs.Common.{◌∙◌, arith}
use mathlib.Core.List.{List}
use Prim.Native.Nat.{ℕ, ◌+◌, ◌*◌, ◌<◌}
use Rattle.std.proofs.Math.ListN.{length, get_or, set, length-set}
use Rattle.std.proofs.Math.Seq.{get_or-set_same, get_or-set_other}
use Rattle.theory.specs.Numbers.{REQUESTS}
use Rattle.tables.specs.Layout.{byte_at}
use Rattle.tables.specs.Asked.{Request, REQUEST_BYTES, request_at}
use Rattle.requests.specs.Flat.{FLAT_NUMBERS, put_at}

module _ (l : List ℕ) (i : ℕ) (r : Request) where
  -- a number before its place stays
  put_low : (j : ℕ) → j < REQUEST_BYTES * i → byte_at (put_at l i r) j ≡ byte_at l j
  unfolding put_at
  put_low j h =
      let at : ℕ = REQUEST_BYTES * i in
      let a : List ℕ = set l at r.event in
      let b : List ℕ = set a (at + 1) r.priority in
      get_or-set_other b (at + 2) j r.delay 0 (λ e. absurd (omega arith))
      ∙ (get_or-set_other a (at + 1) j r.priority 0 (λ e. absurd (omega arith))
      ∙ get_or-set_other l at j r.event 0 (λ e. absurd (omega arith)))

  -- so the requests before it stay
  pub put_before : (k : ℕ) → k < i → request_at (put_at l i r) k ≡ request_at l k
  unfolding request_at
  put_before k h =
      let at : ℕ = REQUEST_BYTES * k in
      let e = put_low at (omega arith) in
      let p = put_low (at + 1) (omega arith) in
      let d = put_low (at + 2) (omega arith) in
      λ t. record { event = e t; priority = p t; delay = d t }

  -- and it is there
  pub put_here : length l ≡ FLAT_NUMBERS → i < REQUESTS → request_at (put_at l i r) i ≡ r
  unfolding request_at put_at
  put_here n h =
      let at : ℕ = REQUEST_BYTES * i in
      let a : List ℕ = set l at r.event in
      let b : List ℕ = set a (at + 1) r.priority in
      let na : length a ≡ FLAT_NUMBERS = length-set l at r.event ∙ n in
      let nb : length b ≡ FLAT_NUMBERS = length-set a (at + 1) r.priority ∙ na in
      let e : get_or (set b (at + 2) r.delay) at 0 ≡ r.event =
      get_or-set_other b (at + 2) at r.delay 0 (λ e. absurd (omega arith))
      ∙ (get_or-set_other a (at + 1) at r.priority 0 (λ e. absurd (omega arith))
      ∙ get_or-set_same l at r.event 0 (omega (arith, n))) in
      let p : get_or (set b (at + 2) r.delay) (at + 1) 0 ≡ r.priority =
      get_or-set_other b (at + 2) (at + 1) r.delay 0 (λ e. absurd (omega arith))
      ∙ get_or-set_same a (at + 1) r.priority 0 (omega (arith, na)) in
      let d : get_or (set b (at + 2) r.delay) (at + 2) 0 ≡ r.delay = get_or-set_same b (at + 2) r.delay 0 (omega (arith, nb)) in
      λ t. record { event = e t; priority = p t; delay = d t }

  -- there are as many numbers as before
  pub put_size : length (put_at l i r) ≡ length l
  unfolding put_at
  put_size =
      let at : ℕ = REQUEST_BYTES * i in
      let a : List ℕ = set l at r.event in
      let b : List ℕ = set a (at + 1) r.priority in
      length-set b (at + 2) r.delay ∙ (length-set a (at + 1) r.priority ∙ length-set l at r.event)
