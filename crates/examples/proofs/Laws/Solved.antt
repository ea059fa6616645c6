-- A list of members, each given or caused by those before it, from which no trigger leads out, is Caused of itself.
-- Assumes nothing.
use Rattle.std.specs.Prelude.{◌≡◌, Bool, true, false, ◌&&◌, List, ℕ, zero, suc, ◌≤◌, ◌<◌, length}
use Rattle.std.proofs.Math.Path.{fun_ext}
use Rattle.std.proofs.Common.{⊎_elim, arith}
use Rattle.theory.specs.Below.{all_below}
use Rattle.theory.specs.Events.{Events, Roles, Part}
use Rattle.theory.specs.Sheet.{Sheet}
use Rattle.theory.specs.Instant.{immediate, allows, met, ready, Closed, IsLeast, Solves}
use Rattle.theory.proofs.Laws.Tests.{and_left, and_right, and_both, bool_ext, not_both}
use Rattle.theory.proofs.Laws.Below.{below_cases, all_elim}
use Rattle.theory.proofs.Laws.Exists.{round, round_closed}
use Rattle.examples.specs.Written.{Prioritized, at, first, among}
use Rattle.examples.proofs.Laws.Passes.{◌⇒◌, self_caused}
use Rattle.examples.proofs.Laws.Listed.{passes_then, first_part}

module _ (sh : Sheet) (on : ℕ → Bool) (G S : Events) where
  -- each of the first k members is in every closed set
  members_in : (ms : List Prioritized) (Y : Events) → Closed sh on G S Y
      → ((i : ℕ) → i < length ms → round sh on G S (first i ms) (at ms i).event (at ms i).priority ≡ true)
      → (k : ℕ) → k ≤ length ms → (i : ℕ) → i < k → Y (at ms i).event (at ms i).priority ≡ true
  members_in ms Y c d zero l i m = absurd (omega arith)
  members_in ms Y c d (suc k) l i m =
      let before : (i : ℕ) → i < k → Y (at ms i).event (at ms i).priority ≡ true = members_in ms Y c d k (omega arith) in
      ⊎_elim
      (λ (e : i ≡ k). rw e (round_closed sh on G S (first k ms) Y (first_part k ms Y before) c (at ms k).event (at ms k).priority (d k (omega arith))))
      (λ (b : i < k). before i b)
      (below_cases m)

-- THE LAW
pub caused_least : (sh : Sheet) (on : ℕ → Bool) (G : Events) (ms : List Prioritized) → Part G (among ms) → self_caused sh on G ms ≡ true → IsLeast sh on G (among ms) (among ms)
unfolding self_caused
caused_least sh on G ms g h =
    let S : Events = among ms in
    let derived : ℕ → Bool = λ i. round sh on G S (first i ms) (at ms i).event (at ms i).priority in
    let fires : ℕ → Bool = λ i. on i && met S S (sh.trigger i) in
    let held : ℕ → Bool = λ i. S (sh.trigger i).head (sh.trigger i).priority in
    let d : all_below (length ms) derived ≡ true = and_left (all_below (length ms) derived) (all_below sh.trigger_count (λ i. fires i ⇒ held i)) h in
    let k : all_below sh.trigger_count (λ i. fires i ⇒ held i) ≡ true = and_right (all_below (length ms) derived) (all_below sh.trigger_count (λ i. fires i ⇒ held i)) h in
    record {
      closed = record {
        holds_givens = g;
        holds_heads = λ i l o m. passes_then (fires i) (held i) (all_elim sh.trigger_count (λ i. fires i ⇒ held i) k i l) (and_both o m);
      };
      least = λ Y c. first_part (length ms) ms Y (members_in sh on G S ms Y c (all_elim (length ms) derived d) (length ms) (omega arith));
    }

-- where no trigger has delay 0, the givens are the solution, and the only one
module _ (sh : Sheet) (late : (i : ℕ) → i < sh.trigger_count → immediate (sh.trigger i) ≡ false) (ST : Roles) (G : Events) where
  late_closed : (S X : Events) → Part G X → Closed sh (ready sh ST) G S X
  unfolding ready
  late_closed S X g =
      record {
        holds_givens = g;
        holds_heads = λ i l o m. not_both (and_left (immediate (sh.trigger i)) (allows ST (sh.trigger i)) o) (late i l);
      }

  pub late_solves : Solves sh ST G G
  late_solves = record { closed = late_closed G G (λ e p g. g); least = λ Y c. c.holds_givens }

  pub late_only : (S : Events) → Solves sh ST G S → S ≡ G
  late_only S s = fun_ext (λ e. fun_ext (λ p. bool_ext (S e p) (G e p) (s.least G (late_closed S G (λ e p g. g)) e p) (s.closed.holds_givens e p)))
