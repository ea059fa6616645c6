-- A table that has one row more: the rows before it fit as they did, and the last one fits as it did by itself.
-- Assumes nothing.
use Rattle.std.specs.Prelude.{◌≡◌, true, List, ℕ, ◌+◌, ◌*◌, ◌<◌, length}
use Rattle.std.proofs.Common.{sym, subst, arith}
use Rattle.std.proofs.Math.Logic.{by_cases}
use Rattle.std.proofs.Math.Decide.{dec_lt}
use Rattle.std.proofs.Math.Seq.{paste}
use Rattle.theory.specs.Numbers.{PERIODIC_ROWS, TRIGGER_ROWS}
use Rattle.theory.specs.Sheet.{Periodic, periodic_fits, trigger_fits}
use Rattle.tables.specs.Layout.{PERIODIC_BYTES, TRIGGER_BYTES, PERIODIC_TABLE, TRIGGER_TABLE, periodic_at, trigger_at}
use Rattle.accepted.specs.Laws.Rows.{here, before, periodic_same, trigger_same}

-- the first n rows of a periodic table fit
abbrev pub PeriodicsFit : ℕ → ℕ → List ℕ → Type 0
PeriodicsFit roles n table = (i : ℕ) → i < n → periodic_fits roles (periodic_at table i) ≡ true

-- the first n rows of a trigger table fit
abbrev pub TriggersFit : ℕ → ℕ → List ℕ → Type 0
TriggersFit roles n table = (i : ℕ) → i < n → trigger_fits roles (trigger_at table i) ≡ true

module _ (roles n : ℕ) (table row : List ℕ) where
  pub periodics_more : length row ≡ PERIODIC_BYTES → length table ≡ PERIODIC_TABLE → n < PERIODIC_ROWS
      → PeriodicsFit roles n table → periodic_fits roles (periodic_at row 0) ≡ true → PeriodicsFit roles (n + 1) (paste table (PERIODIC_BYTES * n) row PERIODIC_BYTES)
  periodics_more wide whole room fit h i l =
      let at : ℕ = PERIODIC_BYTES * n in
      let new : List ℕ = paste table at row PERIODIC_BYTES in
      by_cases (dec_lt i n)
      (λ (b : i < n).
      let x : ℕ = PERIODIC_BYTES * i in
      let e : periodic_at new i ≡ periodic_at table i = periodic_same new table i i (before table row at PERIODIC_BYTES wide (omega arith) x PERIODIC_BYTES (omega arith)) in
      subst (λ (w : Periodic). periodic_fits roles w ≡ true) (sym e) (fit i b))
      (λ (b : ¬ (i < n)).
      let e : periodic_at new n ≡ periodic_at row 0 = periodic_same new row n 0 (here table row at PERIODIC_BYTES wide (omega arith)) in
      let q : n ≡ i = omega arith in
      subst (λ (k : ℕ). periodic_fits roles (periodic_at new k) ≡ true) q (subst (λ (w : Periodic). periodic_fits roles w ≡ true) (sym e) h))

  pub triggers_more : length row ≡ TRIGGER_BYTES → length table ≡ TRIGGER_TABLE → n < TRIGGER_ROWS
      → TriggersFit roles n table → trigger_fits roles (trigger_at row 0) ≡ true → TriggersFit roles (n + 1) (paste table (TRIGGER_BYTES * n) row TRIGGER_BYTES)
  triggers_more wide whole room fit h i l =
      let at : ℕ = TRIGGER_BYTES * n in
      let new : List ℕ = paste table at row TRIGGER_BYTES in
      by_cases (dec_lt i n)
      (λ (b : i < n).
      let x : ℕ = TRIGGER_BYTES * i in
      trigger_same roles table new x x (before table row at TRIGGER_BYTES wide (omega arith) x TRIGGER_BYTES (omega arith)) (fit i b))
      (λ (b : ¬ (i < n)).
      let q : n ≡ i = omega arith in
      subst (λ (k : ℕ). trigger_fits roles (trigger_at new k) ≡ true) q (trigger_same roles row new 0 at (here table row at TRIGGER_BYTES wide (omega arith)) h))
