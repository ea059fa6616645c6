-- Lines that pass one after the other, each after the frames before it: the same as that every line passes, said along the list. And what a line that passes has.
-- Assumes nothing.
use Rattle.std.specs.Prelude.{◌≡◌, true, ◌&&◌, ℕ, zero, suc, ◌-◌, ◌≤◌, ◌<◌, length, get_or, take}
use Rattle.std.proofs.Math.Path.{refl}
use Rattle.std.proofs.Common.{sym, subst, arith}
use mathlib.Core.List.{List, [], ◌∷◌, ◌++◌, append_assoc, append-nil}
use Rattle.theory.proofs.Laws.Tests.{and_left, and_right}
use Rattle.answers.specs.declared.Name.TheVariants.{Frame, Check, Kind, TooMany, Field, Count}
use Rattle.text.specs.Framed.{framed}
use Rattle.frames.specs.Frame.{bytes_of, checked}
use Rattle.tables.specs.Layout.{byte_at, two}
use Rattle.kinds.specs.Kinds.{PERIODIC, TRIGGER, kind, sized}
use Rattle.row_counts.specs.Counts.{room_for, counts_agree}
use Rattle.fields.specs.Fields.{frame_fits}
use Rattle.line_by_line.specs.Tests.{how_many, role_count, known, in_place, passes, order, all_pass}
use Rattle.line_by_line.specs.ComesBack.{frames_of, Passes}
use Rattle.writer.specs.RowLines.{GoodLine}

-- each of these lines passes, after the frames before it
abbrev pub PassesFrom : List (List ℕ) → List (List ℕ) → Type 0
PassesFrom before [] = Unit {0}
PassesFrom before (l ∷ ls) = (all_pass order before l ≡ true) × PassesFrom (before ++ bytes_of l ∷ []) ls

-- ---- every line passes, and along the list

-- line j + 1 of those that stand after these frames
abbrev PassesAt : List (List ℕ) → List (List ℕ) → ℕ → Type 0
PassesAt before ls j = all_pass order (before ++ frames_of (take j ls)) (get_or ls j []) ≡ true

along : (before ls : List (List ℕ)) → ((j : ℕ) → j < length ls → PassesAt before ls j) → PassesFrom before ls
along before [] h = tt
along before (l ∷ ls) h = (
  subst (λ (b : List (List ℕ)). all_pass order b l ≡ true) (append-nil before) (h 0 (omega arith)),
  along (before ++ bytes_of l ∷ []) ls (λ j b.
      subst (λ (x : List (List ℕ)). all_pass order x (get_or ls j []) ≡ true) (sym (append_assoc before (bytes_of l ∷ []) (frames_of (take j ls)))) (h (suc j) (omega arith))),
)

each_of_lem : (before ls : List (List ℕ)) → PassesFrom before ls → (j : ℕ) → j < length ls → PassesAt before ls j
each_of_lem before [] h j b = absurd (omega arith)
each_of_lem before (l ∷ ls) h zero b = subst (λ (x : List (List ℕ)). all_pass order x l ≡ true) (sym (append-nil before)) h.0
each_of_lem before (l ∷ ls) h (suc j) b =
    subst (λ (x : List (List ℕ)). all_pass order x (get_or ls j []) ≡ true) (append_assoc before (bytes_of l ∷ []) (frames_of (take j ls)))
    (each_of_lem (before ++ bytes_of l ∷ []) ls h.1 j (omega arith))

-- of all lines, from the first on
pub from_each : (ls : List (List ℕ)) → ((j : ℕ) → 1 ≤ j → j ≤ length ls → Passes ls j) → PassesFrom [] ls
from_each ls h = along [] ls (λ j b. let e : suc j - 1 ≡ j = omega arith in subst (λ (n : ℕ). all_pass order (frames_of (take n ls)) (get_or ls n []) ≡ true) e (h (suc j) (omega arith) b))

pub to_each : (ls : List (List ℕ)) → PassesFrom [] ls → (j : ℕ) → 1 ≤ j → j ≤ length ls → Passes ls j
to_each ls h j a b = each_of_lem [] ls h (j - 1) (omega arith)

-- lines one after the other
pub passes_append : (before ls ms : List (List ℕ)) → PassesFrom before ls → PassesFrom (before ++ frames_of ls) ms → PassesFrom before (ls ++ ms)
passes_append before [] ms h g = subst (λ (b : List (List ℕ)). PassesFrom b ms) (append-nil before) g
passes_append before (l ∷ ls) ms h g =
    (h.0, passes_append (before ++ bytes_of l ∷ []) ls ms h.1 (subst (λ (b : List (List ℕ)). PassesFrom b ms) (sym (append_assoc before (bytes_of l ∷ []) (frames_of ls))) g))

-- ---- a line that passes

-- its tests by their names
pub record Tested (before : List (List ℕ)) (l : List ℕ) : Type 0 where
  pub frame : framed l ≡ true
  pub check : checked (bytes_of l) ≡ true
  pub is_known : known (kind (bytes_of l)) ≡ true
  pub size : sized (bytes_of l) ≡ true
  pub place : in_place before (kind (bytes_of l)) ≡ true
  pub room : room_for (kind (bytes_of l)) (how_many PERIODIC before) (how_many TRIGGER before) ≡ true
  pub field : frame_fits (kind (bytes_of l)) (role_count before) (bytes_of l) ≡ true
  pub count : counts_agree (kind (bytes_of l)) (byte_at (bytes_of l) 1) (two (bytes_of l) 2) (how_many PERIODIC before) (how_many TRIGGER before) ≡ true

module _ (before : List (List ℕ)) (l : List ℕ) where
  abbrev k : ℕ
  k = kind (bytes_of l)

  pub tested : all_pass order before l ≡ true → Tested before l
  unfolding passes
  tested h =
      let a = and_right (passes Frame before l) _ h in
      let b = and_right (passes Check before l) _ a in
      let c = and_right (passes Kind before l) _ b in
      let d = and_right (passes TooMany before l) (all_pass (Field ∷ Count ∷ []) before l) c in
      let e = and_right (passes Field before l) (all_pass (Count ∷ []) before l) d in
      let is_kind = and_left (passes Kind before l) (all_pass (TooMany ∷ Field ∷ Count ∷ []) before l) b in
      let at = and_right (known k) (sized (bytes_of l) && in_place before k) is_kind in
      record {
        frame = and_left (passes Frame before l) (all_pass (Check ∷ Kind ∷ TooMany ∷ Field ∷ Count ∷ []) before l) h;
        check = and_left (passes Check before l) (all_pass (Kind ∷ TooMany ∷ Field ∷ Count ∷ []) before l) a;
        is_known = and_left (known k) (sized (bytes_of l) && in_place before k) is_kind;
        size = and_left (sized (bytes_of l)) (in_place before k) at;
        place = and_right (sized (bytes_of l)) (in_place before k) at;
        room = and_left (passes TooMany before l) (all_pass (Field ∷ Count ∷ []) before l) c;
        field = and_left (passes Field before l) (all_pass (Count ∷ []) before l) d;
        count = and_left (passes Count before l) (all_pass [] before l) e;
      }

  pub all_tests : Tested before l → all_pass order before l ≡ true
  unfolding passes
  all_tests t = rw (t.frame, t.check, t.is_known, t.size, t.place, t.room, t.field, t.count) refl

  -- it is a good line of its kind
  pub good_line : (n : ℕ) → Tested before l → k ≡ n → GoodLine n l
  good_line n t e = record { frame = t.frame; check = t.check; size = t.size; is_kind = e }

-- so of any line among lines that pass
pub passed_at : (before ls : List (List ℕ)) → PassesFrom before ls → (j : ℕ) → (b : j < length ls) → Tested (before ++ frames_of (take j ls)) (get_or ls j [])
passed_at before ls h j b = tested (before ++ frames_of (take j ls)) (get_or ls j []) (each_of_lem before ls h j b)
