-- A refusal's line reads back.
-- Assumes nothing.
use Rattle.std.specs.Prelude.{◌≡◌, refl, ℕ, ◌+◌, ◌*◌, ◌/◌, ◌%◌, ◌<◌}
use Rattle.std.proofs.Math.Path.{ap}
use Rattle.std.proofs.Common.{◌∙◌, arith}
use mathlib.Core.List.{List, [], ◌∷◌, ◌++◌}
use Rattle.std.proofs.Math.ListN.{length}
use Rattle.answers.specs.declared.Name.{Name}
use Rattle.answers.specs.declared.Name.TheVariants.{Length, Frame, Check, Kind, Field, TooMany, Count, Loop, Request, Last}
use Rattle.answers.specs.declared.Refusal.{Refusal}
use Rattle.answers.specs.Answers.{number_of}
use Rattle.text.specs.Lines.{line, lines}
use Rattle.frames.specs.Frame.{bytes_of, checked}
use Rattle.tables.specs.Layout.{byte_at, four}
use Rattle.prints.specs.Print.{hex_of, check_of}
use Rattle.prints.specs.Laws.Reads.{Bytes, bytes_hex, framed_hex, checked_check, bytes_check, line_reads}
use Rattle.prints.specs.Laws.Numbers.{four_bytes}
use Rattle.printed_frames.specs.Frames.{refusal_frame, refusal_line}
use Rattle.printed_frames.specs.Back.{ReadsBack}
use Rattle.printed_frames.specs.Laws.Bytes.{bytes_refusal}

-- a number is a byte
number_byte : (n : Name) → number_of n / 1 % 256 ≡ number_of n
number_byte Length = refl
number_byte Frame = refl
number_byte Check = refl
number_byte Kind = refl
number_byte Field = refl
number_byte TooMany = refl
number_byte Count = refl
number_byte Loop = refl
number_byte Request = refl
number_byte Last = refl

-- four bytes, as the frame has them
four_in : (n : ℕ) → n < 4294967296 → 65536 * (256 * (n / 16777216 % 256) + n / 65536 % 256) + (256 * (n / 256 % 256) + n / 1 % 256) ≡ n
four_in n h = let e : n / 1 ≡ n = omega arith in ap (λ (x : ℕ). 65536 * (256 * (n / 16777216 % 256) + n / 65536 % 256) + (256 * (n / 256 % 256) + x % 256)) e ∙ four_bytes n h

module _ (r : Refusal) (place : r.place < 4294967296) (column : r.column < 4294967296) where
  abbrev frame : List ℕ
  frame = refusal_frame (number_of r.name) r.place r.column

  -- with its check
  abbrev all : List ℕ
  all = frame ++ (check_of frame ∷ [])

  are_bytes : Bytes all
  are_bytes = bytes_check frame (bytes_refusal (number_of r.name) r.place r.column)

  pub refusal_reads : (text : List ℕ) → (l : List ℕ) × (lines (refusal_line r ++ text) ≡ line l (lines text)) × ReadsBack l r
  unfolding refusal_line
  refusal_reads text =
      let e : bytes_of (hex_of all) ≡ all = bytes_hex all are_bytes in (
        hex_of all,
        line_reads frame text (bytes_refusal (number_of r.name) r.place r.column),
        record {
          is_framed = framed_hex all are_bytes (omega arith);
          is_checked = ap checked e ∙ checked_check frame;
          size = ap length e;
          kind = ap (λ (f : List ℕ). byte_at f 0) e;
          number = ap (λ (f : List ℕ). byte_at f 1) e ∙ number_byte r.name;
          place = ap (λ (f : List ℕ). four f 2) e ∙ four_in r.place place;
          column = ap (λ (f : List ℕ). four f 6) e ∙ four_in r.column column;
        },
      )
