-- What the writer makes are the lines that are to be written: each frame that it makes is printed as a good line from which the reader takes its row.
-- Assumes nothing.
use Rattle.std.specs.Prelude.{◌≡◌, true, take}
use Rattle.std.proofs.Math.Path.{refl, sym, ap}
use Rattle.std.proofs.Common.{◌∙◌, subst}
use Rattle.std.proofs.Math.Logic.{by_cases}
use mathlib.Core.List.{List, [], ◌∷◌, ◌++◌}
use Prim.Native.Nat.{ℕ, zero, suc, ◌+◌, ◌-◌, ◌*◌, ◌/◌, ◌%◌, ◌≤◌, ◌<◌}
use Rattle.std.proofs.Math.Decide.{dec_lt}
use native.Mathlib.Omega.{arith}
use Rattle.std.proofs.Math.ListN.{length, length-append, get_or-append}
use Rattle.std.proofs.Math.Seq.{get_or-take}
use borrow.Author.Tests.{eq-eqb, lt-ltb, le-ltb}
use Rattle.theory.specs.Numbers.{BODY_EVENTS, BODY_CONDITIONS}
use Rattle.frames.specs.Frame.{bytes_of, checked}
use Rattle.tables.specs.Layout.{PERIODIC_BYTES, TRIGGER_BYTES, byte_at, trigger_from, trigger_at}
use Rattle.tables.specs.Used.{UsedByte}
use Rattle.loops.specs.Tested.{tabulate}
use Rattle.loops.specs.Laws.Levels.{length_tabulate, get_d_tabulate}
use Rattle.trigger_frames.specs.Row.{trigger_row}
use Rattle.kinds.specs.Kinds.{HEADER, PERIODIC, TRIGGER, END, kind, size_of, sized}
use Rattle.fields.specs.Fields.{VERSION}
use Rattle.prints.specs.Print.{hex_of, check_of}
use Rattle.prints.specs.Laws.Reads.{Bytes, bytes_none, bytes_cons, bytes_hex, bytes_check, framed_hex, checked_check}
use Rattle.writer.specs.RowLines.{GoodLine, HeaderLine, PeriodicLine, TriggerLine, EndLine}
use Rattle.writer.specs.Made.{header_frame, periodic_frame, row_place, body_size, trigger_whole, trigger_frame, end_frame}
use Rattle.writer.specs.Laws.Long.{body_long}
use Rattle.writer.proofs.Laws.Rows.{periodic_at_lem, count_at, event_at, condition_at, last_at_lem}

-- ---- bytes

pub bytes_tabulate : (n : ℕ) (b : ℕ → ℕ) → ((k : ℕ) → b k < 256) → Bytes (tabulate n b)
unfolding tabulate
bytes_tabulate zero b h = bytes_none
bytes_tabulate (suc n) b h = bytes_cons (b 0) (tabulate n (λ k. b (suc k))) (h 0) (bytes_tabulate n (λ k. b (suc k)) (λ k. h (suc k)))

bytes_take : (n : ℕ) (f : List ℕ) → Bytes f → Bytes (take n f)
bytes_take zero f h = bytes_none
bytes_take (suc n) [] h = bytes_none
bytes_take (suc n) (b ∷ f) h = bytes_cons b (take n f) (h 0) (bytes_take n f (λ i. h (suc i)))

-- ---- a printed frame

-- with its check
abbrev pub whole : List ℕ → List ℕ
whole f = f ++ (check_of f ∷ [])

-- and as a line, without its end
abbrev pub printed : List ℕ → List ℕ
printed f = hex_of (whole f)

module _ (f : List ℕ) (bytes : Bytes f) where
  pub printed_bytes : bytes_of (printed f) ≡ whole f
  printed_bytes = bytes_hex (whole f) (bytes_check f bytes)

  -- it is a good line
  printed_good : (k : ℕ) → sized (whole f) ≡ true → kind (whole f) ≡ k → GoodLine k (printed f)
  printed_good k s h =
      record {
        frame = framed_hex (whole f) (bytes_check f bytes) (omega (arith, length-append f (check_of f ∷ [])));
        check = ap checked printed_bytes ∙ checked_check f;
        size = ap sized printed_bytes ∙ s;
        is_kind = ap kind printed_bytes ∙ h;
      }

  -- a byte of it before the check
  inside : (k : ℕ) → k < length f → byte_at (bytes_of (printed f)) k ≡ byte_at f k
  inside k h = ap (λ (g : List ℕ). byte_at g k) printed_bytes ∙ get_or-append f (check_of f ∷ []) 0 k h

-- ---- the header

pub header_meets : (roles : ℕ) → roles < 256 → HeaderLine roles (printed (header_frame roles))
unfolding size_of
header_meets roles h =
    let f : List ℕ = header_frame roles in
    let bytes : Bytes f = bytes_cons HEADER (VERSION ∷ roles ∷ []) (omega arith) (bytes_cons VERSION (roles ∷ []) (omega arith) (bytes_cons roles [] h bytes_none)) in
    record {
      good = printed_good f bytes HEADER refl refl;
      version = inside f bytes 1 (omega arith);
      role_count = inside f bytes 2 (omega arith);
    }

-- ---- a periodic row

module _ (table : List ℕ) (bytes : (k : ℕ) → byte_at table k < 256) where
  module _ (i : ℕ) where
    abbrev row : ℕ → ℕ
    row k = byte_at table (PERIODIC_BYTES * i + k)

    abbrev pf : List ℕ
    pf = periodic_frame table (PERIODIC_BYTES * i)

    periodic_bytes : Bytes pf
    periodic_bytes = bytes_cons PERIODIC (tabulate PERIODIC_BYTES row) (omega arith) (bytes_tabulate PERIODIC_BYTES row (λ k. bytes (PERIODIC_BYTES * i + k)))

    periodic_sized : sized (whole pf) ≡ true
    unfolding size_of
    periodic_sized = eq-eqb (length (whole pf)) 18 (omega (arith, length-append (tabulate PERIODIC_BYTES row) (check_of pf ∷ []), length_tabulate PERIODIC_BYTES row))

    pub periodic_meets : PeriodicLine table i (printed pf)
    periodic_meets =
        record {
          good = printed_good pf periodic_bytes PERIODIC periodic_sized refl;
          row = λ k h.
              periodic_at_lem (bytes_of (printed pf)) k h
              ∙ inside pf periodic_bytes (suc k) (omega (arith, length_tabulate PERIODIC_BYTES row))
              ∙ get_d_tabulate PERIODIC_BYTES row k h;
        }

  -- ---- a trigger

  module _ (i : ℕ) where
    abbrev at : ℕ
    at = TRIGGER_BYTES * i

    abbrev e : ℕ
    e = byte_at table at

    abbrev c : ℕ
    c = byte_at table (at + 1)

    abbrev place : ℕ → ℕ
    place k = byte_at table (at + row_place e c (suc k))

    abbrev tf : List ℕ
    tf = trigger_frame table at

    trigger_bytes : Bytes tf
    unfolding trigger_frame
    trigger_bytes =
        bytes_take (body_size e c) (trigger_whole table at e c)
        (bytes_cons TRIGGER (tabulate TRIGGER_BYTES place) (omega arith) (bytes_tabulate TRIGGER_BYTES place (λ k. bytes (at + row_place e c (suc k)))))

    module _ (few_events : e ≤ BODY_EVENTS) (few_conditions : c ≤ BODY_CONDITIONS) where
      trigger_length : length tf ≡ body_size e c
      unfolding trigger_frame
      trigger_length = body_long table at e c few_events few_conditions

      abbrev F : List ℕ
      F = bytes_of (printed tf)

      -- the kind, and each byte after it
      kind_there : byte_at tf 0 ≡ TRIGGER
      unfolding trigger_frame
      kind_there = get_or-take (body_size e c) (trigger_whole table at e c) 0 0 (omega arith)

      byte_there : (k : ℕ) → k < 5 + e + c → byte_at tf (suc k) ≡ place k
      unfolding trigger_frame
      byte_there k h = get_or-take (body_size e c) (trigger_whole table at e c) (suc k) 0 (omega arith) ∙ get_d_tabulate TRIGGER_BYTES place k (omega arith)

      -- byte j of the line's frame is byte k of the row
      there : (j k n : ℕ) → j ≡ suc n → n < 5 + e + c → row_place e c (suc n) ≡ k → byte_at F j ≡ byte_at table (at + k)
      there j k n s h p =
          ap (byte_at F) s
          ∙ inside tf trigger_bytes (suc n) (omega (arith, trigger_length))
          ∙ byte_there n h
          ∙ ap (λ (m : ℕ). byte_at table (at + m)) p

      events_there : byte_at F 1 ≡ e
      unfolding row_place
      events_there = there 1 0 0 refl (omega arith) (rw (lt-ltb 1 (3 + e) (omega arith))) ∙ ap (byte_at table) (let z : at + 0 ≡ at = omega arith in z)

      conditions_there : byte_at F 2 ≡ c
      unfolding row_place
      conditions_there = there 2 1 1 refl (omega arith) (rw (lt-ltb 2 (3 + e) (omega arith)))

      count_there : (k : ℕ) → k < 2 → byte_at (trigger_row F) k ≡ byte_at table (at + k)
      unfolding row_place
      count_there k h = count_at F k h ∙ there (suc k) k k refl (omega arith) (rw (lt-ltb (suc k) (3 + e) (omega arith)) (omega arith))

      event_there : (j : ℕ) → j < e → byte_at (trigger_row F) (2 + j) ≡ byte_at table (at + (2 + j))
      unfolding row_place
      event_there j h =
          event_at F j (omega arith) (omega (arith, events_there))
          ∙ there (3 + j) (2 + j) (2 + j) (omega arith) (omega arith) (rw (lt-ltb (suc (2 + j)) (3 + e) (omega arith)) (omega arith))

      condition_there : (j : ℕ) → j < c → byte_at (trigger_row F) (6 + j) ≡ byte_at table (at + (6 + j))
      unfolding row_place
      condition_there j h =
          condition_at F j (omega arith) (omega (arith, conditions_there))
          ∙ there (3 + byte_at F 1 + j) (6 + j) (2 + e + j) (omega (arith, events_there)) (omega arith)
          (rw (le-ltb (suc (2 + e + j)) (3 + e) (omega arith), lt-ltb (suc (2 + e + j)) (3 + e + c) (omega arith)) (omega arith))

      last_there : (j : ℕ) → j < 3 → byte_at (trigger_row F) (10 + j) ≡ byte_at table (at + (10 + j))
      unfolding row_place
      last_there j h =
          last_at_lem F j h
          ∙ there (3 + byte_at F 1 + byte_at F 2 + j) (10 + j) (2 + e + c + j) (omega (arith, events_there, conditions_there)) (omega arith)
          (rw (le-ltb (suc (2 + e + c + j)) (3 + e) (omega arith), le-ltb (suc (2 + e + c + j)) (3 + e + c) (omega arith)) (omega arith))

      abbrev There : ℕ → Type 0
      There k = byte_at (trigger_row F) k ≡ byte_at table (at + k)

      moved : (j k : ℕ) → j ≡ k → There j → There k
      moved j k s t = subst There s t

      each_there : (k : ℕ) → k < TRIGGER_BYTES → UsedByte (trigger_at table i) k → There k
      unfolding trigger_from
      each_there k h u =
          by_cases (dec_lt k 2)
          (λ (a : k < 2). count_there k a)
          (λ (a : ¬ (k < 2)).
          by_cases (dec_lt k 6)
          (λ (b : k < 6). moved (2 + (k - 2)) k (omega arith) (event_there (k - 2) (omega (arith, u.0 (omega arith) b))))
          (λ (b : ¬ (k < 6)).
          by_cases (dec_lt k 10)
          (λ (d : k < 10). moved (6 + (k - 6)) k (omega arith) (condition_there (k - 6) (omega (arith, u.1 (omega arith) d))))
          (λ (d : ¬ (k < 10)). moved (10 + (k - 10)) k (omega arith) (last_there (k - 10) (omega arith)))))

      trigger_sized : sized (whole tf) ≡ true
      unfolding size_of
      trigger_sized =
          let g : List ℕ = whole tf in
          let k : kind g ≡ TRIGGER = get_or-append tf (check_of tf ∷ []) 0 0 (omega (arith, trigger_length)) ∙ kind_there in
          let p : byte_at g 1 ≡ e = sym (ap (λ (f : List ℕ). byte_at f 1) (printed_bytes tf trigger_bytes)) ∙ events_there in
          let q : byte_at g 2 ≡ c = sym (ap (λ (f : List ℕ). byte_at f 2) (printed_bytes tf trigger_bytes)) ∙ conditions_there in
          let n : length g ≡ 7 + e + c = omega (arith, length-append tf (check_of tf ∷ []), trigger_length) in
          eq-eqb (length g) (size_of (kind g) (byte_at g 1) (byte_at g 2)) (n ∙ sym (λ t. size_of (k t) (p t) (q t)))

      pub trigger_meets : TriggerLine table i (printed tf)
      trigger_meets =
          record {
            good = printed_good tf trigger_bytes TRIGGER trigger_sized (get_or-append tf (check_of tf ∷ []) 0 0 (omega (arith, trigger_length)) ∙ kind_there);
            row = each_there;
          }

-- ---- the end

pub end_meets : (n m : ℕ) → n < 256 → m < 65536 → EndLine n m (printed (end_frame n m))
unfolding size_of
end_meets n m h k =
    let f : List ℕ = end_frame n m in
    let bytes : Bytes f =
    bytes_cons END (n % 256 ∷ m / 256 % 256 ∷ m % 256 ∷ []) (omega arith)
    (bytes_cons (n % 256) (m / 256 % 256 ∷ m % 256 ∷ []) (omega arith)
    (bytes_cons (m / 256 % 256) (m % 256 ∷ []) (omega arith)
    (bytes_cons (m % 256) [] (omega arith) bytes_none))) in
    record {
      good = printed_good f bytes END refl refl;
      periodic_count = omega (arith, inside f bytes 1 (omega arith));
      trigger_count = omega (arith, inside f bytes 2 (omega arith), inside f bytes 3 (omega arith));
    }
