-- Laws of the chains: how they are made, from the last trigger to the first, and what they say of the keys.
-- Assumes nothing.
use Rattle.std.specs.Prelude.{◌≡◌, refl, true, false, List, ℕ, zero, suc, ◌+◌, ◌-◌, ◌≤◌, ◌<◌, eqb, length, get_or, set, replicate, Option, Some, None, MatchOption, unwrap_or}
use Rattle.std.proofs.Common.{ap, ◌∙◌, subst, ⊎_elim, eq-or-lt_of_le, arith, length-set, get_or-set_same, get_or-set_other, eqb-true}
use Rattle.std.proofs.lemmas.List.{length-replicate, get_or-replicate}
use Rattle.std.proofs.lemmas.Bool.{eqb-false}
use Rattle.theory.specs.Numbers.{TRIGGER_ROWS}
use Rattle.theory.proofs.Laws.Tests.{test}
use Rattle.theory.specs.Solving.{Gap}
use Rattle.theory.proofs.Laws.Solving.{gap_first, gap_wider}
use Rattle.keys.specs.Keys.{KEYS, PLACES, first_of, after_of, First, Chained}

module _ (key : ℕ → ℕ) (n : ℕ) where
  -- ---- one trigger more in front

  -- it is the first of its key
  first_here : (i : ℕ) → i < n → First key n (key i) i i
  first_here i l = record { from = omega arith; most = omega arith; none = λ j h m _. absurd (omega arith); there = λ _. refl }

  -- of every other key the first is the same
  first_past : (i k r : ℕ) → ¬ (key i ≡ k) → First key n k (i + 1) r → First key n k i r
  first_past i k r other f =
      record {
        from = omega (arith, f.from);
        most = f.most;
        none = λ j h l e.
            ⊎_elim (λ (x : i ≡ j). other (ap key x ∙ e)) (λ (x : i < j). f.none j (omega arith) l e) (eq-or-lt_of_le h);
        there = f.there;
      }

  -- ---- the chains

  -- of no trigger yet
  pub chained_none : (length (replicate PLACES n) ≡ PLACES) × Chained key n n (replicate PLACES n)
  chained_none = (
    length-replicate {A = ℕ} PLACES n,
    record {
      fits = λ j h l. absurd (omega arith);
      first = λ k l.
          rw (get_or-replicate {A = ℕ} PLACES (TRIGGER_ROWS + k) n 0 (omega arith))
          (record { from = omega arith; most = omega arith; none = λ j h m _. absurd (omega arith); there = λ m. absurd (omega arith) });
      after = λ j h l. absurd (omega arith);
    },
  )

  -- trigger i in front of those after it
  abbrev linked : ℕ → List ℕ → List ℕ
  linked i c = set c i (first_of c (key i))

  abbrev longer : ℕ → List ℕ → List ℕ
  longer i c = set (linked i c) (TRIGGER_ROWS + key i) i

  linked_size : (i : ℕ) (c : List ℕ) → length c ≡ PLACES → length (linked i c) ≡ PLACES
  linked_size i c size = length-set c i (first_of c (key i)) ∙ size

  module _ (i : ℕ) (c : List ℕ) (size : length c ≡ PLACES) (l : i < n) (m : n ≤ TRIGGER_ROWS) (fit : key i < KEYS) (h : Chained key n (i + 1) c) where
    other_first : (k : ℕ) → ¬ (key i ≡ k) → first_of (longer i c) k ≡ first_of c k
    other_first k other =
        get_or-set_other (linked i c) (TRIGGER_ROWS + key i) (TRIGGER_ROWS + k) i 0 (λ e. other (omega arith))
        ∙ get_or-set_other c i (TRIGGER_ROWS + k) (first_of c (key i)) 0 (λ e. absurd (omega arith))

    own_first : first_of (longer i c) (key i) ≡ i
    own_first = get_or-set_same (linked i c) (TRIGGER_ROWS + key i) i 0 (omega (arith, linked_size i c size))

    later_after : (j : ℕ) → j < n → ¬ (i ≡ j) → after_of (longer i c) j ≡ after_of c j
    later_after j lj other =
        get_or-set_other (linked i c) (TRIGGER_ROWS + key i) j i 0 (λ e. absurd (omega arith)) ∙ get_or-set_other c i j (first_of c (key i)) 0 (λ e. other (omega arith))

    own_after : after_of (longer i c) i ≡ first_of c (key i)
    own_after =
        get_or-set_other (linked i c) (TRIGGER_ROWS + key i) i i 0 (λ e. absurd (omega arith)) ∙ get_or-set_same c i (first_of c (key i)) 0 (omega (arith, size))

    chained_longer : Chained key n i (longer i c)
    chained_longer =
        record {
          fits = λ j x y. ⊎_elim (λ (e : i ≡ j). subst (λ (z : ℕ). key z < KEYS) e fit) (λ (e : i < j). h.fits j (omega arith) y) (eq-or-lt_of_le x);
          first = λ k y.
              ⊎_elim
              (λ (e : eqb (key i) k ≡ true).
              let own : First key n (key i) i (first_of (longer i c) (key i)) = rw own_first (first_here i l) in
              subst (λ (z : ℕ). First key n z i (first_of (longer i c) z)) (eqb-true _ _ e) own)
              (λ (e : eqb (key i) k ≡ false). rw (other_first k (eqb-false _ _ e)) (first_past i k (first_of c k) (eqb-false _ _ e) (h.first k y)))
              (test (eqb (key i) k));
          after = λ j x y.
              ⊎_elim
              (λ (e : i ≡ j).
              let own : First key n (key i) (i + 1) (after_of (longer i c) i) = rw own_after (h.first (key i) fit) in
              subst (λ (z : ℕ). First key n (key z) (z + 1) (after_of (longer i c) z)) e own)
              (λ (e : i < j). rw (later_after j y (λ q. absurd (omega arith))) (h.after j (omega arith) y))
              (eq-or-lt_of_le x);
        }

  -- the same, as a program writes it
  pub chained_next : (i i' : ℕ) (c c' : List ℕ) (at front v : ℕ) → i ≡ i' + 1 → i ≤ n → n ≤ TRIGGER_ROWS → at ≡ i' → v ≡ key i' → v < KEYS
      → front ≡ TRIGGER_ROWS + v → c' ≡ set (set c at (get_or c front 0)) front i'
      → (length c ≡ PLACES) × Chained key n i c → (length c' ≡ PLACES) × Chained key n i' c'
  chained_next i i' c c' at front v e l m a k fit f w h = (
    rw (w, a, f, k) (length-set (linked i' c) (TRIGGER_ROWS + key i') i' ∙ linked_size i' c h.0),
    rw (w, a, f, k) (chained_longer i' c h.0 (omega arith) m (omega (arith, k)) (rw e at h.1)),
  )

  -- ---- what they say

  -- they lead on
  pub chained_onward : (c : List ℕ) → Chained key n 0 c → (i : ℕ) → i < n → i < after_of c i
  chained_onward c h i l = omega (arith, (h.after i (omega arith) l).from)

  -- a key whose chain is empty is no trigger's
  pub chained_gap : (c : List ℕ) (k r v : ℕ) → v ≡ first_of c r → n ≤ v → r < KEYS → Chained key n 0 c → Gap key n k r → Gap key n k (r + 1)
  chained_gap c k r v e m l h g = gap_wider key n k r g (λ i y. (h.first r l).none i (omega arith) (omega (arith, e)))

  -- no key lies between two where all chains are empty
  chained_gaps : (c : List ℕ) (k m : ℕ) → k + 1 + m ≤ KEYS → ((j : ℕ) → k + 1 ≤ j → j < k + 1 + m → n ≤ first_of c j) → Chained key n 0 c → Gap key n k (k + 1 + m)
  chained_gaps c k zero l f h = let e : k + 1 + zero ≡ k + 1 = omega arith in rw e (gap_first key n k)
  chained_gaps c k (suc m) l f h =
      let e : k + 1 + suc m ≡ k + 1 + m + 1 = omega arith in
      rw e (chained_gap c k (k + 1 + m) (first_of c (k + 1 + m)) refl (f (k + 1 + m) (omega arith) (omega arith)) (omega arith) h (chained_gaps c k m (omega arith) (λ j x y. f j x (omega arith)) h))

  chained_gap_to : (c : List ℕ) (k r : ℕ) → k < r → r ≤ KEYS → ((j : ℕ) → k + 1 ≤ j → j < r → n ≤ first_of c j) → Chained key n 0 c → Gap key n k r
  chained_gap_to c k r l m f h =
      let e : k + 1 + (r - (k + 1)) ≡ r = omega arith in
      subst (λ (x : ℕ). Gap key n k x) e (chained_gaps c k (r - (k + 1)) (omega arith) (λ j x y. f j x (omega arith)) h)

-- the first key after k whose chain is not empty, and KEYS where there is none
pub next_found : (c : List ℕ) (n k : ℕ) (r : Option ℕ) → k < KEYS
    → MatchOption r ((j : ℕ) → k + 1 ≤ j → j < KEYS → n ≤ first_of c j) (λ i. (k + 1 ≤ i) × (i < KEYS) × (first_of c i < n) × ((j : ℕ) → k + 1 ≤ j → j < i → n ≤ first_of c j))
    → (k < unwrap_or r KEYS) × (unwrap_or r KEYS ≤ KEYS) × ((key : ℕ → ℕ) → Chained key n 0 c → Gap key n k (unwrap_or r KEYS))
next_found c n k None l h = (l, omega arith, λ key w. chained_gap_to key n c k KEYS l (omega arith) h w)
next_found c n k (Some i) l h = (omega (arith, h.0), omega (arith, h.1), λ key w. chained_gap_to key n c k i (omega (arith, h.0)) (omega (arith, h.1)) h.3 w)
