-- What FIELD leaves of each kind of frame.
-- Assumes nothing.
use Rattle.std.specs.Prelude.{◌≡◌, true, ◌&&◌, List, ℕ, ◌≤◌, leb, eqb}
use Rattle.std.proofs.Common.{leb-true}
use Rattle.theory.specs.Numbers.{ROLES}
use Rattle.theory.specs.Sheet.{periodic_fits, trigger_fits}
use Rattle.theory.proofs.Laws.Tests.{and_left, and_right}
use Rattle.tables.specs.Layout.{byte_at, periodic_at, trigger_at}
use Rattle.periodic_frames.specs.Row.{periodic_row}
use Rattle.trigger_frames.specs.Row.{trigger_row}
use Rattle.kinds.specs.Kinds.{HEADER, PERIODIC, TRIGGER, kind}
use Rattle.fields.specs.Fields.{VERSION, header_fits, frame_fits}

pub header_says : (roles : ℕ) (f : List ℕ) → kind f ≡ HEADER → frame_fits (kind f) roles f ≡ true → (1 ≤ byte_at f 2) × (byte_at f 2 ≤ ROLES)
unfolding frame_fits header_fits
header_says roles f k h =
    let r : ℕ = byte_at f 2 in
    let g : (eqb (byte_at f 1) VERSION && (leb 1 r && leb r ROLES)) ≡ true = rw k at h in
    let q = and_right (eqb (byte_at f 1) VERSION) (leb 1 r && leb r ROLES) g in
    (leb-true 1 r (and_left (leb 1 r) (leb r ROLES) q), leb-true r ROLES (and_right (leb 1 r) (leb r ROLES) q))

pub periodic_fits_lem : (roles : ℕ) (f : List ℕ) → kind f ≡ PERIODIC → frame_fits (kind f) roles f ≡ true → periodic_fits roles (periodic_at (periodic_row f) 0) ≡ true
unfolding frame_fits
periodic_fits_lem roles f k h = rw k at h

pub trigger_fits_lem : (roles : ℕ) (f : List ℕ) → kind f ≡ TRIGGER → frame_fits (kind f) roles f ≡ true → trigger_fits roles (trigger_at (trigger_row f) 0) ≡ true
unfolding frame_fits
trigger_fits_lem roles f k h = rw k at h
