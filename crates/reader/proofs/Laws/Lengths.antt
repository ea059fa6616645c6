-- What LENGTH leaves.
-- Assumes nothing.
use Rattle.std.specs.Prelude.{◌≡◌, true, ℕ, ◌≤◌, leb, eqb}
use Rattle.std.proofs.Common.{leb-true, eqb-true}
use Rattle.theory.specs.Numbers.{SHEET_BYTES}
use Rattle.theory.proofs.Laws.Tests.{and_left, and_right}
use Rattle.tables.specs.Layout.{PERIODIC_TABLE, TRIGGER_TABLE}
use Rattle.reader.specs.Reading.{sheet_lengths_fit}

pub lengths_say : (a b c : ℕ) → sheet_lengths_fit a b c ≡ true → (a ≤ SHEET_BYTES) × ((b ≡ PERIODIC_TABLE) × (c ≡ TRIGGER_TABLE))
unfolding sheet_lengths_fit
lengths_say a b c h =
    let k = and_right (leb a SHEET_BYTES) _ h in
    (leb-true _ _ (and_left (leb a SHEET_BYTES) _ h), (eqb-true _ _ (and_left (eqb b PERIODIC_TABLE) _ k), eqb-true _ _ (and_right (eqb b PERIODIC_TABLE) _ k)))
