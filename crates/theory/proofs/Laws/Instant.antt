-- Laws of blocking and of a trigger's body: what they ask of the sets.
-- Assumes nothing.
use Rattle.std.specs.Prelude.{◌≡◌, refl, true, not, ◌&&◌, ℕ, ◌<◌}
use Rattle.std.proofs.Common.{sym, ap, ◌∙◌}
use Rattle.theory.specs.Numbers.{PRIORITIES}
use Rattle.theory.specs.Events.{Events, Part, conf, blocked, nonblocked}
use Rattle.theory.specs.Sheet.{Trigger}
use Rattle.theory.specs.Instant.{met}
use Rattle.theory.proofs.Laws.Tests.{and_left, and_right, and_both}
use Rattle.theory.proofs.Laws.Below.{any_map, all_map}

-- what blocks p:e are members of the conflicting event alone
blocked_same : (S S' : Events) (e p : ℕ) → S (conf e) ≡ S' (conf e) → blocked S e p ≡ blocked S' e p
unfolding blocked
blocked_same S S' e p a = rw a refl

nonblocked_map : (S S' X X' : Events) (e : ℕ) → S (conf e) ≡ S' (conf e) → ((q : ℕ) → X e q ≡ true → X' e q ≡ true) → nonblocked S X e ≡ true → nonblocked S' X' e ≡ true
unfolding nonblocked
nonblocked_map S S' X X' e a m h =
    any_map PRIORITIES (λ q. X e q && not (blocked S e q)) (λ q. X' e q && not (blocked S' e q))
    (λ q l t.
    and_both
    (m q (and_left (X e q) (not (blocked S e q)) t))
    (ap not (sym (blocked_same S S' e q a)) ∙ and_right (X e q) (not (blocked S e q)) t))
    h

pub met_map : (S S' X X' : Events) (g : Trigger)
    → ((j : ℕ) → j < g.event_count → S (conf (g.event j)) ≡ S' (conf (g.event j)))
    → ((j : ℕ) → j < g.event_count → (q : ℕ) → X (g.event j) q ≡ true → X' (g.event j) q ≡ true)
    → met S X g ≡ true → met S' X' g ≡ true
unfolding met
met_map S S' X X' g a m h =
    all_map g.event_count (λ j. nonblocked S X (g.event j)) (λ j. nonblocked S' X' (g.event j))
    (λ j l t. nonblocked_map S S' X X' (g.event j) (a j l) (m j l) t)
    h

pub met_mono : (S X X' : Events) (g : Trigger) → Part X X' → met S X g ≡ true → met S X' g ≡ true
met_mono S X X' g m = met_map S S X X' g (λ j l. refl) (λ j l q. m (g.event j) q)
