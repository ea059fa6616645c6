-- Laws of requests: what is asked for, what is within the limits, what a pass says of each, and the search for the first that is outside its limits. (`Flat` has those of flat numbers.)
-- Assumes nothing.
use Rattle.std.specs.Prelude.{◌≡◌, Bool, true, false, not, ◌&&◌, leb, eqb}
use Rattle.std.proofs.Math.Path.{refl}
use Rattle.std.proofs.Common.{sym, ap, arith}
use Rattle.std.proofs.Math.Logic.{⊎_elim}
use Prim.Native.Nat.{ℕ, ◌<◌}
use Rattle.std.proofs.Math.Dec.{ltb}
use borrow.Author.Tests.{leb-true, le-leb, ltb-true, lt-ltb, le-ltb, ltb-false, eqb-true, eq-eqb, not-false}
use Rattle.theory.specs.Numbers.{LONGEST_DELAY}
use Rattle.theory.specs.Below.{first_below}
use Rattle.theory.specs.Sheet.{of_roles, is_priority, is}
use Rattle.theory.proofs.Laws.Tests.{and_left, and_right, and_both, bool_ext, test}
use Rattle.theory.proofs.Laws.Below.{any_intro, any_elim}
use Rattle.theory.proofs.Laws.Limits.{RequestWithin, request_says}
use Rattle.theory.proofs.Laws.First.{first_none, first_past}
use Rattle.answers.specs.declared.Name.TheVariants.{Request}
use Rattle.answers.proofs.Laws.{no_pass}
use Rattle.answers.specs.Answers.{refuse, pass}
use Rattle.tables.specs.Asked as lent
use Rattle.tables.specs.Asked.{Asked, asks}
use Rattle.requests.specs.Requests.{fits, outside, first_outside, judge_requests, AllFit}
pub mod Flat
pub mod Exact

-- ---- what is asked for

pub asks_intro : (q : Asked) (d e p i : ℕ) → i < q.count → (q.request i).delay ≡ d → is (q.request i).event (q.request i).priority e p ≡ true → asks q d e p ≡ true
unfolding asks
asks_intro q d e p i l z h =
    any_intro q.count (λ k. eqb (q.request k).delay d && is (q.request k).event (q.request k).priority e p) i l (and_both (eq-eqb _ _ z) h)

pub asks_elim : (q : Asked) (d e p : ℕ) → asks q d e p ≡ true → (i : ℕ) × (i < q.count) × ((q.request i).delay ≡ d) × (is (q.request i).event (q.request i).priority e p ≡ true)
unfolding asks
asks_elim q d e p h =
    let r = any_elim q.count (λ k. eqb (q.request k).delay d && is (q.request k).event (q.request k).priority e p) h in
    let i : ℕ = r.0 in
    (i, r.1, eqb-true _ _ (and_left (eqb (q.request i).delay d) _ r.2), and_right (eqb (q.request i).delay d) _ r.2)

-- ---- the limits

-- its event is of the roles, its priority is one, and its delay is not over the longest
pub fits_tests : (role_count : ℕ) (r : lent.Request) → ((of_roles role_count r.event && is_priority r.priority) && leb r.delay LONGEST_DELAY) ≡ fits role_count r
fits_tests n r =
    let a : Bool = of_roles n r.event in
    let b : Bool = is_priority r.priority in
    let c : Bool = leb r.delay LONGEST_DELAY in
    let says = request_says n r.delay r.event r.priority in
    bool_ext ((a && b) && c) (fits n r)
    (λ h.
    let k : (a && b) ≡ true = and_left (a && b) c h in
    says.1 (record {
      event = ltb-true _ _ (and_left a b k);
      priority = ltb-true _ _ (and_right a b k);
      delay = leb-true _ _ (and_right (a && b) c h);
    }))
    (λ h. let w = says.0 h in and_both (and_both (lt-ltb _ _ w.event) (lt-ltb _ _ w.priority)) (le-leb _ _ w.delay))

-- ---- the search

pub fit_says : (role_count : ℕ) (q : Asked) → AllFit role_count q → (i : ℕ) → i < q.count → RequestWithin role_count (q.request i).delay (q.request i).event (q.request i).priority
fit_says role_count q h i l = (request_says role_count (q.request i).delay (q.request i).event (q.request i).priority).0 (h i l)

module _ (role_count : ℕ) (q : Asked) where
  -- the first that is outside is refused
  pub outside_here : (k : ℕ) → k < q.count → k ≡ first_below q.count (outside role_count q) → refuse Request k ≡ judge_requests role_count q
  unfolding judge_requests first_outside
  outside_here k l e = rw (← e, lt-ltb k q.count l) refl

  pub outside_none : q.count ≡ first_below q.count (outside role_count q) → pass ≡ judge_requests role_count q
  unfolding judge_requests first_outside
  outside_none e = rw (← e, le-ltb q.count q.count (omega arith)) refl

  -- where nothing is refused, every request is within its limits
  pub requests_pass : judge_requests role_count q ≡ pass → AllFit role_count q
  unfolding judge_requests first_outside
  requests_pass h i l =
      let k : ℕ = first_below q.count (outside role_count q) in
      ⊎_elim
      (λ (t : ltb k q.count ≡ true). no_pass _ (rw t at h))
      (λ (f : ltb k q.count ≡ false). not-false _ (first_past q.count (outside role_count q) (ltb-false _ _ f) i l))
      (test (ltb k q.count))

  -- and the other way round
  pub requests_fit : AllFit role_count q → judge_requests role_count q ≡ pass
  requests_fit h = sym (outside_none (sym (first_none q.count (outside role_count q) (λ k l. ap not (h k l)))))
