-- From the code's own opening to the input's, and back with what comes of it. (The code has the tape as a part of the input.)
-- Assumes nothing.
use Rattle.std.specs.Prelude.{◌≡◌, List, ℕ, length, drop, Result}
use Rattle.std.proofs.Common.{sym, ap, ◌∙◌, subst}
use Rattle.answers.specs.declared.Refusal.{Refusal}
use Rattle.tables.specs.Lent.{rules}
use Rattle.day_input.specs.declared.Plan.{Plan}
use Rattle.day_input.specs.Opening.{Opening, refused, opening}
use Rattle.day_input.specs.Planned.{opening_of}
use Rattle.day_run.specs.Run.{GoodInput}
use Rattle.day_run.specs.Laws.Opened.{OpensTo}
use Rattle.day_lines.specs.Lines.{OUTPUT_BYTES}
use Rattle.day_print.specs.Day.{AfterOpening}
use Rattle.day_print.specs.Ready.{Ready}

module _ (input : List ℕ) (plan : Plan) (p t : List ℕ) (x : OpensTo input plan p t) (tape : List ℕ) (part : tape ≡ drop plan.from input) (out : List ℕ) where
  pub opened_ready : length out ≡ OUTPUT_BYTES → Ready plan p t tape out
  opened_ready size = record { input = subst (GoodInput (rules plan.counts p t)) (sym part) x.good; last = x.last; buffer = size }

  pub opened_back : (r : Result ℕ Refusal) (out' : List ℕ) → AfterOpening (opening_of plan p t tape) out r out' → AfterOpening (opening input) out r out'
  opened_back r out' f = subst (λ (o : Opening). AfterOpening o out r out') (ap (opening_of plan p t) part ∙ sym x.opens_it) f

pub refused_back : (input : List ℕ) (x : Refusal) → opening input ≡ refused x → (out : List ℕ) (r : Result ℕ Refusal) (out' : List ℕ) → AfterOpening (refused x) out r out' → AfterOpening (opening input) out r out'
refused_back input x e out r out' f = subst (λ (o : Opening). AfterOpening o out r out') (sym e) f
