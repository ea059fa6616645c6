-- There is room for every sheet in good order: the header has 9 bytes, each of at most 128 periodic rows 37, each of at most 256 triggers at most 31, and the end 11; that is 12,692 at most.
-- Assumes nothing.
use Rattle.std.specs.Prelude.{◌≡◌, List, ◌++◌, ℕ, ◌+◌, ◌*◌, ◌≤◌, length}
use Rattle.std.proofs.Common.{arith, length-append}
use Rattle.theory.specs.Numbers.{SHEET_BYTES, PERIODIC_ROWS, TRIGGER_ROWS}
use Rattle.theory.specs.Sheet.{GoodOrder}
use Rattle.theory.proofs.Laws.OneSolution.{good_trigger}
use Rattle.tables.specs.Layout.{sheet_of, trigger_from}
use Rattle.tables.specs.Lent.{Rules, sheet_in}
use Rattle.prints.specs.Print.{line_of}
use Rattle.prints.specs.Laws.Lengths.{length_line}
use Rattle.writer.specs.Made.{header_frame, end_frame, text_below, periodic_text, trigger_text, sheet_text, Puts, FewInBodies}
use Rattle.writer.proofs.Laws.Puts.{puts_both, puts_frame, periodics_short, triggers_short}

-- the most bytes of a sheet
abbrev pub LONGEST : ℕ
LONGEST = 12692

module _ (R : Rules) (good : GoodOrder (sheet_in R)) where
  abbrev n : ℕ
  n = R.counts.periodics

  abbrev m : ℕ
  m = R.counts.triggers

  abbrev header_text : List ℕ
  header_text = line_of (header_frame R.counts.roles)

  abbrev periodics_text : List ℕ
  periodics_text = text_below n (periodic_text R.tables.periodics)

  abbrev triggers_text : List ℕ
  triggers_text = text_below m (trigger_text R.tables.triggers)

  abbrev end_text : List ℕ
  end_text = line_of (end_frame n m)

  pub few_periodics : n ≤ PERIODIC_ROWS
  unfolding sheet_of
  few_periodics = good.few_periodics

  pub few_triggers : m ≤ TRIGGER_ROWS
  unfolding sheet_of
  few_triggers = good.few_triggers

  pub few_bodies : FewInBodies R.tables.triggers m
  unfolding sheet_of trigger_from
  few_bodies i l = let w = good_trigger (sheet_in R) good i l in (w.few_events, w.few_conditions)

  periodics_fit : length periodics_text ≤ 37 * 128
  periodics_fit = omega (arith, few_periodics, periodics_short R.tables.periodics n)

  triggers_fit : length triggers_text ≤ 31 * 256
  triggers_fit = omega (arith, few_triggers, triggers_short R.tables.triggers m few_bodies)

  -- THE LAW: every sheet fits
  pub sheet_short : length (sheet_text R) ≤ LONGEST
  sheet_short =
      omega (
        arith,
        length-append ((header_text ++ periodics_text) ++ triggers_text) end_text,
        length-append (header_text ++ periodics_text) triggers_text,
        length-append header_text periodics_text,
        length_line (header_frame R.counts.roles),
        length_line (end_frame n m),
        periodics_fit,
        triggers_fit,
      )

  -- its four parts, one behind the other
  module _ (d : List ℕ) (whole : length d ≡ SHEET_BYTES) (first d₁ : List ℕ) (a : ℕ) (is_first : first ≡ header_frame R.counts.roles) (x : Puts d 0 (line_of first) d₁ a) where
    pub with_header_lem : Puts d 0 header_text d₁ a
    with_header_lem = puts_frame d 0 first (header_frame R.counts.roles) d₁ a is_first x

    pub room_periodics : a + 37 * n ≤ SHEET_BYTES
    room_periodics = omega (arith, with_header_lem.place, few_periodics, length_line (header_frame R.counts.roles))

    module _ (d₂ : List ℕ) (b : ℕ) (y : Puts d₁ a periodics_text d₂ b) where
      with_periodics : Puts d 0 (header_text ++ periodics_text) d₂ b
      with_periodics = puts_both d header_text d₁ periodics_text d₂ 0 a b with_header_lem y (omega (arith, periodics_fit, length_line (header_frame R.counts.roles)))

      pub room_triggers : b + 31 * m ≤ SHEET_BYTES
      room_triggers = omega (arith, with_header_lem.place, y.place, periodics_fit, few_triggers, length_line (header_frame R.counts.roles))

      module _ (d₃ : List ℕ) (c : ℕ) (z : Puts d₂ b triggers_text d₃ c) where
        with_triggers : Puts d 0 ((header_text ++ periodics_text) ++ triggers_text) d₃ c
        with_triggers =
            puts_both d (header_text ++ periodics_text) d₂ triggers_text d₃ 0 b c with_periodics z
            (omega (arith, length-append header_text periodics_text, periodics_fit, triggers_fit, length_line (header_frame R.counts.roles)))

        pub room_end : c + 11 ≤ SHEET_BYTES
        room_end = omega (arith, with_header_lem.place, y.place, z.place, periodics_fit, triggers_fit, length_line (header_frame R.counts.roles))

        pub with_end_lem : (last d₄ : List ℕ) (r : ℕ) → last ≡ end_frame n m → Puts d₃ c (line_of last) d₄ r → Puts d 0 (sheet_text R) d₄ r
        with_end_lem last d₄ r is_last w =
            puts_both d ((header_text ++ periodics_text) ++ triggers_text) d₃ end_text d₄ 0 c r with_triggers (puts_frame d₃ c last (end_frame n m) d₄ r is_last w)
            (omega (arith, whole, sheet_short, length-append ((header_text ++ periodics_text) ++ triggers_text) end_text))
