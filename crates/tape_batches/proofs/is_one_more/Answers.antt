-- `tape_batches::is_one_more` meets its contract: the tests are the definition's.
-- Assumes nothing.
use mathlib.Core.Path.{◌≡◌, sym, ap, ◌∙◌}
use Rattle.std.specs.Prelude.{Some, eqb}
use Rattle.frames.specs.Frame.{bytes_of}
use Rattle.kinds.specs.Kinds.{kind}
use Rattle.tape_frames.specs.Frame.{ASK}
use Rattle.tape_frames.specs.Laws.Kinds.{asks, asks_said}
use Rattle.tape_frames.specs.declared.Kind.TheVariants.{End}
use Rattle.tape_batches.specs.Batch.{is_of}
use Rattle.tape_batches.proofs.is_one_more.Goals as goal
use Rattle.tape_batches.proofs.is_one_more.Goals.{in-Some-Ask, in_default, in_default-2}

pub returns : goal.returns
unfolding is_of asks
returns c =
    let m : c.match-matches.matches ≡ asks c.kind_of.result =
    elim c.match-matches.branch [
      | in-Some-Ask w ↦ w.matches-is ∙ ap asks (sym (w.in-Some-Ask.is ∙ ap Some w.in-Some-Ask.field-0-is))
      | in_default w ↦
          let e : w.in_default.field-0 ≡ End = search w.in_default in
          w.matches-is ∙ ap asks (sym (w.in_default.is ∙ ap Some e))
      | in_default-2 w ↦ w.matches-is ∙ ap asks (sym w.in_default.is)
    ]
    in
    let k : c.match-matches.matches ≡ eqb (kind (bytes_of c.args.line.now)) ASK = m ∙ ap asks c.kind_of.ensures ∙ asks_said _ in
    cc
