-- Laws of sets that are written as lists: what holds of each that is listed holds of each member.
-- Assumes nothing.
use Rattle.std.specs.Prelude.{◌≡◌, refl, Bool, true, false, ◌&&◌, List, [], ◌∷◌, ℕ, ◌<◌, eqb, length, get_or}
use Rattle.std.proofs.Common.{sym, subst, subst₂, ⊎_elim, eqb-true}
use Rattle.std.proofs.lemmas.Bool.{false≢true}
use Rattle.std.specs.Bool.{beq}
use Rattle.theory.specs.Below.{all_below}
use Rattle.theory.specs.Events.{Events, Part}
use Rattle.theory.specs.Sheet.{is}
use Rattle.theory.specs.Box.{row}
use Rattle.theory.specs.Model.{Stream}
use Rattle.theory.proofs.Laws.Tests.{and_left, and_right, or_cases}
use Rattle.theory.proofs.Laws.Below.{any_elim, all_elim}
use Rattle.theory.proofs.Laws.Exists.{is_only}
use Rattle.examples.specs.Written.{Prioritized, at, first, among, Requested, stream_of, Waits, wait_at, roles_in, rows_in}
use Rattle.examples.proofs.Laws.Passes.{◌⇒◌, each_of, each_waiting, each_asked}

pub passes_then : (a b : Bool) → (a ⇒ b) ≡ true → a ≡ true → b ≡ true
passes_then true b h t = h
passes_then false b h t = absurd (false≢true t)

pub beq_true : (a b : Bool) → beq a b ≡ true → a ≡ b
beq_true true true h = refl
beq_true true false h = sym h
beq_true false true h = h
beq_true false false h = refl

pub first_part : (k : ℕ) (ms : List Prioritized) (X : Events) → ((i : ℕ) → i < k → X (at ms i).event (at ms i).priority ≡ true) → Part (first k ms) X
unfolding first
first_part k ms X h e p m =
    let r = any_elim k (λ i. is (at ms i).event (at ms i).priority e p) m in
    is_only X (at ms r.0).event (at ms r.0).priority e p r.2 (h r.0 r.1)

pub among_part : (ms : List Prioritized) (X : Events) → each_of ms X ≡ true → Part (among ms) X
among_part ms X h = first_part (length ms) ms X (all_elim (length ms) (λ i. X (at ms i).event (at ms i).priority) h)

pub roles_part : (rs : List ℕ) (f : ℕ → Bool) → all_below (length rs) (λ i. f (get_or rs i 0)) ≡ true → (r : ℕ) → roles_in rs r ≡ true → f r ≡ true
unfolding roles_in
roles_part rs f h r m =
    let x = any_elim (length rs) (λ i. eqb (get_or rs i 0) r) m in
    subst (λ (n : ℕ). f n ≡ true) (eqb-true _ _ x.2) (all_elim (length rs) (λ i. f (get_or rs i 0)) h x.0 x.1)

pub rows_part : (ws : List Waits) (X : ℕ → Events) → each_waiting ws X ≡ true → (k e p : ℕ) → rows_in ws k e p ≡ true → X k e p ≡ true
unfolding rows_in
rows_part ws X h k e p m =
    let key : ℕ → ℕ = λ i. row (wait_at ws i).instant in
    let a : ℕ → ℕ = λ i. (wait_at ws i).what.event in
    let b : ℕ → ℕ = λ i. (wait_at ws i).what.priority in
    let x = any_elim (length ws) (λ i. eqb (key i) k && is (a i) (b i) e p) m in
    let i : ℕ = x.0 in
    is_only (X k) (a i) (b i) e p (and_right (eqb (key i) k) (is (a i) (b i) e p) x.2)
    (subst (λ (z : ℕ). X z (a i) (b i) ≡ true) (eqb-true _ _ (and_left (eqb (key i) k) (is (a i) (b i) e p) x.2)) (all_elim (length ws) (λ i. X (key i) (a i) (b i)) h i x.1))

pub asked_part : (qs : List Requested) (X : Stream) → each_asked qs X ≡ true → (t d e p : ℕ) → stream_of qs t d e p ≡ true → X t d e p ≡ true
unfolding stream_of
asked_part [] X h t d e p m = absurd (false≢true m)
asked_part (q ∷ qs) X h t d e p m =
    let a : ℕ = q.what.event in
    let b : ℕ = q.what.priority in
    let here : Bool = eqb q.instant t && (eqb q.delay d && is a b e p) in
    ⊎_elim
    (λ (o : here ≡ true).
    let r = and_right (eqb q.instant t) (eqb q.delay d && is a b e p) o in
    is_only (X t d) a b e p (and_right (eqb q.delay d) (is a b e p) r)
    (subst₂ (λ (u x : ℕ). X u x a b ≡ true) (eqb-true _ _ (and_left (eqb q.instant t) _ o)) (eqb-true _ _ (and_left (eqb q.delay d) _ r)) (and_left (X q.instant q.delay a b) (each_asked qs X) h)))
    (λ (o : stream_of qs t d e p ≡ true). asked_part qs X (and_right (X q.instant q.delay a b) (each_asked qs X) h) t d e p o)
    (or_cases here (stream_of qs t d e p) m)
