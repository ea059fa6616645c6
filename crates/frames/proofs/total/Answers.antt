-- `frames::total` meets its contract. The loop's invariant: the sum so far and that of the bytes from the index on make the whole sum, less multiples of 256.
-- Assumes nothing.
use Rattle.std.proofs.Common.{◌≡◌, List, ℕ, ◌+◌, ◌*◌, ◌/◌, ◌<◌, [], ◌∷◌, length, get_or, ap, ◌∙◌, arith}
use Rattle.frames.specs.Frame.{bytes_of, value}
use Rattle.frames.specs.Laws.Frame.{length_bytes, value_small, sum_next, sum_end}
use Rattle.frames.proofs.Pairs.{pair_is}
use Rattle.frames.proofs.total.Goals as goal

pub overflow_mul-sum : goal.overflow_mul-sum
overflow_mul-sum c =
    omega (arith, c.digit_by_tests-a.ensures, value_small (get_or (get_or c.as_chunks.result.0.now c.loop-pair.pair-index []) 0 0))

pub overflow_add-sum : goal.overflow_add-sum
overflow_add-sum c =
    omega (
      arith,
      c.digit_by_tests-a.ensures,
      value_small (get_or (get_or c.as_chunks.result.0.now c.loop-pair.pair-index []) 0 0),
      c.digit_by_tests-b.ensures,
      value_small (get_or (get_or c.as_chunks.result.0.now c.loop-pair.pair-index []) 1 0),
    )

pub loop-pair-preserved : goal.loop-pair-preserved
loop-pair-preserved c =
    let line = c.args.line.now in
    let i = c.loop-pair.pair-index in
    let within : i < length line / 2 = omega (arith, c.as_chunks.ensures.front_len) in
    let pair : get_or c.as_chunks.result.0.now i [] ≡ get_or line (2 * i) 0 ∷ get_or line (2 * i + 1) 0 ∷ [] =
    ap (λ (ps : List (List ℕ)). get_or ps i []) c.as_chunks.ensures.front ∙ pair_is line (length line / 2) i within (omega arith) in
    let a : c.digit_by_tests-a.result ≡ value (get_or line (2 * i) 0) = c.digit_by_tests-a.ensures ∙ ap (λ (p : List ℕ). value (get_or p 0 0)) pair in
    let b : c.digit_by_tests-b.result ≡ value (get_or line (2 * i + 1) 0) = c.digit_by_tests-b.ensures ∙ ap (λ (p : List ℕ). value (get_or p 1 0)) pair in
    let g = sum_next line i c.loop-pair.sum c.digit_by_tests-a.result c.digit_by_tests-b.result _ within a b c.loop-pair.invariant in
    omega arith

pub returns : goal.returns
returns c =
    let g = sum_end (bytes_of c.args.line.now) c.loop-pair.pair-index (omega (arith, length_bytes c.args.line.now, c.as_chunks.ensures.front_len)) in
    omega arith
