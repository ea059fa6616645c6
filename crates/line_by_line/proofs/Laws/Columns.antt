-- The column of a refused line says what document 02 says of it.
-- Assumes nothing.
use Rattle.std.specs.Prelude.{◌≡◌, refl, List, [], ◌∷◌, ℕ, ◌-◌, ◌≤◌, Err}
use Rattle.std.proofs.Common.{sym, ap, ◌∙◌, subst, arith}
use Rattle.std.proofs.Math.ListN.{get_or-append}
use Rattle.answers.specs.declared.Name.{Name}
use Rattle.answers.specs.Answers.{refusal, in_column}
use Rattle.frames.specs.Frame.{bytes_of}
use Rattle.line_readers.specs.Column.{column_of, in_line, located}
use Rattle.line_readers.specs.Says.{InLine}
use Rattle.line_readers.specs.Laws.Column.{endless_within}
use Rattle.fields.specs.Fields.{FieldColumn}
use Rattle.sheet_tests.specs.Judge.{judge_line}
use Rattle.sheet_tests.specs.Laws.{judged_in_line}
use Rattle.line_by_line.specs.Tests.{role_count, order, FirstFails, bad_field}
use Rattle.line_by_line.specs.ComesBack.{the_line, frames_before, Fault, fails, no_final, no_end, RefusedAt, faulty_line, refusal_at}
use Rattle.line_by_line.proofs.Laws.Order.{judged_fail}
use Rattle.line_by_line.proofs.Laws.Said.{said}
use Rattle.line_by_line.proofs.Laws.Tests.{judge_same}

-- of a line that fails, after these frames
line_column : (fs : List (List ℕ)) (l : List ℕ) (name : Name) (k : ℕ) → FirstFails order name fs l → InLine (FieldColumn (role_count fs) (bytes_of l)) l k (in_line l (bad_field fs l) (refusal name k))
unfolding located
line_column fs l name k x =
    let e : judge_line k (said fs).seen l ≡ Err (in_line l (bad_field fs l) (refusal name k)) =
    judge_same fs l k ∙ ap (located l (bad_field fs l)) (judged_fail fs l order name k x) in
    judged_in_line k (said fs).seen l _ e

module _ (all : List (List ℕ)) (rest : List ℕ) where
  -- THE LAW
  abbrev pub Says : Name → ℕ → Type 0
  Says name k =
      let l : List ℕ = faulty_line all rest k in
      InLine (FieldColumn (role_count (frames_before all k)) (bytes_of l)) l k (refusal_at all rest name k)

  by_fault : (name : Name) (k : ℕ) → 1 ≤ k → Fault all rest name k → Says name k
  by_fault name k from (fails h x) =
      let q : the_line all k ≡ faulty_line all rest k = sym (get_or-append all (rest ∷ []) [] (k - 1) (omega arith)) in
      let fs : List (List ℕ) = frames_before all k in
      subst (λ (l : List ℕ). InLine (FieldColumn (role_count fs) (bytes_of l)) l k (in_column (column_of name l (bad_field fs l)) (refusal name k))) q
      (line_column fs (the_line all k) name k x)
  by_fault name k from (no_final e c n) =
      let l : List ℕ = faulty_line all rest k in
      subst (λ (m : Name). Says m k) (sym n) (endless_within (FieldColumn (role_count (frames_before all k)) (bytes_of l)) l k)
  by_fault name k from (no_end e c z n) = subst (λ (m : Name). Says m k) (sym n) (record { at_place = refl; says = refl; within = omega arith })

  pub column_says : (name : Name) (k : ℕ) → RefusedAt all rest name k → Says name k
  column_says name k x = by_fault name k x.from_1 x.fault
