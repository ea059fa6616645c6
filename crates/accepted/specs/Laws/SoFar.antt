-- What was read so far, at any line: both tables have their length, and once the header was read the sheet is in good order. Each kind of frame keeps it so.
-- Assumes nothing.
use Rattle.std.specs.Prelude.{◌≡◌, true}
use Rattle.std.proofs.Common.{◌∙◌, arith}
use mathlib.Core.List.{List}
use Prim.Native.Nat.{ℕ, ◌*◌, ◌≤◌, ◌<◌}
use Rattle.std.proofs.Math.ListN.{length}
use Rattle.std.proofs.Math.Seq.{length-paste}
use Rattle.theory.specs.Numbers.{ROLES, PERIODIC_ROWS, TRIGGER_ROWS}
use Rattle.theory.specs.Sheet.{GoodOrder, periodic_fits, trigger_fits}
use Rattle.tables.specs.Layout.{PERIODIC_BYTES, TRIGGER_BYTES, PERIODIC_TABLE, TRIGGER_TABLE, byte_at, periodic_at, trigger_at, sheet_of}
use Rattle.periodic_frames.specs.Row.{periodic_row}
use Rattle.periodic_frames.specs.Laws.{length_periodic}
use Rattle.trigger_frames.specs.Row.{trigger_row}
use Rattle.trigger_frames.specs.Laws.{length_trigger}
use Rattle.kinds.specs.declared.Stage.{Stage}
use Rattle.kinds.specs.declared.Stage.TheVariants.{Start, Rows, Ended}
use Rattle.sheet_acts.specs.Acts.{Progress}
use Rattle.reader.specs.Out.{sheet_read}
use Rattle.accepted.specs.Laws.Tables.{periodics_more, triggers_more}
use Rattle.accepted.specs.Laws.After.{with_header, with_periodic, with_trigger, with_end}

-- before the header no row was read; after it the sheet is in good order
abbrev pub InOrder : Stage → Progress → Type 0
InOrder Start s = (s.seen.counts.periodics ≡ 0) × (s.seen.counts.triggers ≡ 0)
InOrder Rows s = GoodOrder (sheet_read s)
InOrder Ended s = GoodOrder (sheet_read s)

pub record SoFar (s : Progress) : Type 0 where
  pub periodic_bytes : length s.tables.periodics ≡ PERIODIC_TABLE
  pub trigger_bytes : length s.tables.triggers ≡ TRIGGER_TABLE
  pub in_order : InOrder s.seen.stage s

-- ---- each kind of frame keeps it so

module _ (s : Progress) (f : List ℕ) (x : SoFar s) where
  pub header_keeps : InOrder Start s → (1 ≤ byte_at f 2) × (byte_at f 2 ≤ ROLES) → SoFar (with_header s f)
  unfolding sheet_of
  header_keeps z r =
      record {
        periodic_bytes = x.periodic_bytes;
        trigger_bytes = x.trigger_bytes;
        in_order =
            record {
              some_role = r.0;
              few_roles = r.1;
              few_periodics = omega (arith, z.0);
              few_triggers = omega (arith, z.1);
              periodics = λ i l. absurd (omega (arith, l, z.0));
              triggers = λ i l. absurd (omega (arith, l, z.1));
            };
      }

  module _ (g : GoodOrder (sheet_read s)) where
    pub periodic_keeps : s.seen.counts.periodics < PERIODIC_ROWS → periodic_fits s.seen.counts.roles (periodic_at (periodic_row f) 0) ≡ true → SoFar (with_periodic s f)
    unfolding sheet_of
    periodic_keeps l h =
        let n : ℕ = s.seen.counts.periodics in
        let row : List ℕ = periodic_row f in
        let whole : length s.tables.periodics ≡ PERIODIC_TABLE = x.periodic_bytes in
        let wide : length row ≡ PERIODIC_BYTES = length_periodic f in
        record {
          periodic_bytes = length-paste s.tables.periodics (PERIODIC_BYTES * n) row PERIODIC_BYTES (omega arith) (omega arith) ∙ whole;
          trigger_bytes = x.trigger_bytes;
          in_order =
              record {
                some_role = g.some_role;
                few_roles = g.few_roles;
                few_periodics = omega arith;
                few_triggers = g.few_triggers;
                periodics = periodics_more s.seen.counts.roles n s.tables.periodics row wide whole l g.periodics h;
                triggers = g.triggers;
              };
        }

    pub trigger_keeps : s.seen.counts.triggers < TRIGGER_ROWS → trigger_fits s.seen.counts.roles (trigger_at (trigger_row f) 0) ≡ true → SoFar (with_trigger s f)
    unfolding sheet_of
    trigger_keeps l h =
        let n : ℕ = s.seen.counts.triggers in
        let row : List ℕ = trigger_row f in
        let whole : length s.tables.triggers ≡ TRIGGER_TABLE = x.trigger_bytes in
        let wide : length row ≡ TRIGGER_BYTES = length_trigger f in
        record {
          periodic_bytes = x.periodic_bytes;
          trigger_bytes = length-paste s.tables.triggers (TRIGGER_BYTES * n) row TRIGGER_BYTES (omega arith) (omega arith) ∙ whole;
          in_order =
              record {
                some_role = g.some_role;
                few_roles = g.few_roles;
                few_periodics = g.few_periodics;
                few_triggers = omega arith;
                periodics = g.periodics;
                triggers = triggers_more s.seen.counts.roles n s.tables.triggers row wide whole l g.triggers h;
              };
        }

    pub end_keeps : SoFar (with_end s f)
    end_keeps = record { periodic_bytes = x.periodic_bytes; trigger_bytes = x.trigger_bytes; in_order = g }
