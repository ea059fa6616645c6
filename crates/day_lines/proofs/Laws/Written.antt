-- The lines in the buffer, one more with each minute of a run.
-- Assumes nothing.
use Rattle.std.specs.Prelude.{◌≡◌, refl, List, ℕ, suc, ◌+◌, ◌*◌, ◌≤◌, ◌<◌, length}
use Rattle.std.proofs.Math.Path.{sym, ap}
use Rattle.std.proofs.Common.{◌∙◌, subst, arith}
use Rattle.std.proofs.Math.Seq.{paste, paste-zero}
use Rattle.std.proofs.lemmas.List.Edits.{length-paste}
use Rattle.theory.specs.Numbers.{ROLES, EVENTS, LAST_INSTANT}
use Rattle.theory.specs.Below.{count_below}
use Rattle.theory.specs.Events.{Events, Roles, nonblocked}
use Rattle.theory.specs.Model.{Trace}
use Rattle.tables.specs.Buffers.{events_of}
use Rattle.tables.specs.Lent.{Rules, Lent}
use Rattle.prints.specs.Print.{line_of}
use Rattle.prints.specs.Laws.Lengths.{length_line}
use Rattle.printed_frames.specs.Frames.{minute_frame}
use Rattle.printed_frames.specs.Laws.Lengths.{length_minute}
use Rattle.day_minute.specs.declared.Minute.{Minute}
use Rattle.day_minute.specs.Minute.{MinuteOutcome}
use Rattle.day_run.specs.Run.{GoodInput, ModelOf, Standing}
use Rattle.day_run.specs.Laws.Minute.{minute_events, minute_roles}
use Rattle.day_lines.specs.Lines.{weight_below, line_at, minute_line, minute_lines, LINE}
use Rattle.day_lines.specs.Written.{Written}
use Rattle.day_lines.proofs.Laws.Weight.{weight_is}
use Rattle.day_lines.proofs.Laws.Lines.{lines_next}

-- before the first instant
pub written_none : (R : Rules) (tape out : List ℕ) → Written R tape 0 out out
written_none R tape out = record { size = refl; holds = λ tr x. paste-zero out 0 (minute_lines tr 0) }

module _ (R : Rules) (tape : List ℕ) (ok : GoodInput R tape) (n : ℕ) (served : n ≤ LAST_INSTANT) (l : Lent) (at : ℕ) (s : Standing R tape n l at) (r : Minute) (a : Lent)
    (m : MinuteOutcome R tape at l r a) (k : ℕ) (counted : k ≡ count_below EVENTS (nonblocked (events_of a.events) (events_of a.events))) where
  -- the line that is printed
  line_is : (tr : Trace) → ModelOf R tape tr → minute_line tr n ≡ line_of (minute_frame n r.enabled k)
  unfolding minute_line line_at
  line_is tr x =
      let w : weight_below ROLES (tr.ST (suc n)) ≡ r.enabled
      = weight_is ROLES r.enabled (tr.ST (suc n)) m.roles.1 (λ y. ap (λ (f : Roles). f y) (minute_roles R tape ok n served l at s r a m tr x)) in
      let e : count_below EVENTS (nonblocked (tr.EV n) (tr.EV n)) ≡ k
      = ap (λ (S : Events). count_below EVENTS (nonblocked S S)) (sym (minute_events R tape ok n served l at s r a m tr x)) ∙ sym counted in
      λ i. line_of (minute_frame n (w i) (e i))

  -- THE LAW: with the line of instant n behind the others
  pub written_next : (f : List ℕ) → f ≡ minute_frame n r.enabled k → (out before after : List ℕ) → LINE * (n + 1) ≤ length out → Written R tape n out before
      → after ≡ paste before (LINE * n) (line_of f) (length (line_of f)) → Written R tape (n + 1) out after
  written_next f g out before after room w e =
      let z : length (line_of f) ≡ LINE = omega (arith, length_line f, ap length g, length_minute n r.enabled k) in
      record {
        size = ap length e ∙ (length-paste before (LINE * n) (line_of f) (length (line_of f)) (omega (arith, z, w.size, room)) (omega arith) ∙ w.size);
        holds = λ tr x. e ∙ lines_next tr n out before f (w.holds tr x) room (line_is tr x ∙ ap line_of (sym g));
      }

-- after the last instant
pub written_all : (R : Rules) (tape : List ℕ) (last n : ℕ) (out out' : List ℕ) → last < n → n ≤ last + 1 → Written R tape n out out' → Written R tape (suc last) out out'
written_all R tape last n out out' h k w = let e : n ≡ suc last = omega (arith, h, k) in subst (λ (i : ℕ). Written R tape i out out') e w
