-- The lines that are written of tables in good order: they are there, for the writer makes them, and there are no others.
-- Assumes nothing.
use Rattle.std.specs.Prelude.{◌≡◌, refl, List, [], ◌∷◌, ◌++◌, ℕ, zero, suc, ◌*◌, ◌≤◌, ◌<◌, length, get_or}
use Rattle.std.proofs.Common.{sym, ap, ap₂, ◌∙◌, append_assoc, arith, length-append, ext_get_or}
use Rattle.std.proofs.Math.Logic.{by_cases}
use Rattle.std.proofs.Math.Decide.{dec_lt}
use Rattle.std.proofs.Math.ListN.{get_or-append}
use Rattle.std.proofs.lemmas.List.{get_or_at}
use Rattle.theory.specs.Sheet.{GoodOrder}
use Rattle.text.specs.Lines.{LINE_END}
use Rattle.tables.specs.Layout.{PERIODIC_BYTES, TRIGGER_BYTES, byte_at, sheet_of}
use Rattle.tables.specs.Lent.{Rules, sheet_in}
use Rattle.prints.specs.Print.{line_of}
use Rattle.line_by_line.specs.Lines.{joined}
use Rattle.writer.specs.Made.{header_frame, periodic_frame, trigger_frame, end_frame, text_below, periodic_text, trigger_text, sheet_text}
use Rattle.writer.specs.Outcome.{Writes}
use Rattle.writer.proofs.Laws.OneLine.{one_header, one_periodic, one_trigger, one_end}
use Rattle.writer.proofs.Laws.Meets.{printed, header_meets, periodic_meets, trigger_meets, end_meets}
use Rattle.writer.proofs.Laws.Room.{few_periodics, few_triggers, few_bodies}

-- ---- lines, joined

pub joined_append : (ls ms : List (List ℕ)) → joined (ls ++ ms) ≡ joined ls ++ joined ms
joined_append [] ms = refl
joined_append (l ∷ ls) ms =
    ap (λ (r : List ℕ). l ++ LINE_END ∷ r) (joined_append ls ms)
    ∙ sym (append_assoc l (LINE_END ∷ joined ls) (joined ms))

-- the lines of the first n rows as a list, by the line of each
abbrev lines_below : ℕ → (ℕ → List ℕ) → List (List ℕ)
lines_below zero line = []
lines_below (suc n) line = lines_below n line ++ line n ∷ []

below_length : (n : ℕ) (line : ℕ → List ℕ) → length (lines_below n line) ≡ n
below_length zero line = refl
below_length (suc n) line = omega (arith, length-append (lines_below n line) (line n ∷ []), below_length n line)

below_at : (n : ℕ) (line : ℕ → List ℕ) (i : ℕ) → i < n → get_or (lines_below n line) i [] ≡ line i
below_at zero line i h = absurd (omega arith)
below_at (suc n) line i h =
    by_cases (dec_lt i n)
    (λ (a : i < n). get_or-append (lines_below n line) (line n ∷ []) [] i (omega (arith, below_length n line)) ∙ below_at n line i a)
    (λ (a : ¬ (i < n)).
    let e : i ≡ n = omega arith in
    ap (λ (k : ℕ). get_or (lines_below (suc n) line) k []) e
    ∙ get_or_at (lines_below n line) (line n) [] [] n (below_length n line)
    ∙ ap line (sym e))

below_joined : (n : ℕ) (line : ℕ → List ℕ) → joined (lines_below n line) ≡ text_below n (λ i. line i ++ LINE_END ∷ [])
below_joined zero line = refl
below_joined (suc n) line =
    joined_append (lines_below n line) (line n ∷ [])
    ∙ ap (λ (r : List ℕ). r ++ (line n ++ LINE_END ∷ [])) (below_joined n line)

-- ---- they are there

module _ (R : Rules) (good : GoodOrder (sheet_in R)) (per : (k : ℕ) → byte_at R.tables.periodics k < 256) (trg : (k : ℕ) → byte_at R.tables.triggers k < 256) where
  abbrev n : ℕ
  n = R.counts.periodics

  abbrev m : ℕ
  m = R.counts.triggers

  abbrev header_line : List ℕ
  header_line = printed (header_frame R.counts.roles)

  abbrev periodic_line : ℕ → List ℕ
  periodic_line i = printed (periodic_frame R.tables.periodics (PERIODIC_BYTES * i))

  abbrev trigger_line : ℕ → List ℕ
  trigger_line i = printed (trigger_frame R.tables.triggers (TRIGGER_BYTES * i))

  abbrev end_line : List ℕ
  end_line = printed (end_frame n m)

  abbrev pub made : List (List ℕ)
  made = header_line ∷ (lines_below n periodic_line ++ (lines_below m trigger_line ++ end_line ∷ []))

  few_roles : R.counts.roles ≤ 64
  unfolding sheet_of
  few_roles = good.few_roles

  pub made_writes : Writes R made
  made_writes =
      record {
        header = header_line;
        periodics = lines_below n periodic_line;
        triggers = lines_below m trigger_line;
        end = end_line;
        lines = refl;
        is_header = header_meets R.counts.roles (omega (arith, few_roles));
        periodic_count = below_length n periodic_line;
        each_periodic = λ i l. rw (below_at n periodic_line i l) (periodic_meets R.tables.periodics per i);
        trigger_count = below_length m trigger_line;
        each_trigger = λ i l.
            let few = few_bodies R good i l in
            rw (below_at m trigger_line i l) (trigger_meets R.tables.triggers trg i few.0 few.1);
        is_end = end_meets n m (omega (arith, few_periodics R good)) (omega (arith, few_triggers R good));
      }

  -- and joined they are the text that is put into the buffer
  pub made_joined : joined made ≡ sheet_text R
  made_joined =
      let h : List ℕ = line_of (header_frame R.counts.roles) in
      let p : List ℕ = text_below n (periodic_text R.tables.periodics) in
      let t : List ℕ = text_below m (trigger_text R.tables.triggers) in
      let e : List ℕ = line_of (end_frame n m) in
      let rest : joined (lines_below n periodic_line ++ (lines_below m trigger_line ++ end_line ∷ [])) ≡ p ++ (t ++ e) =
      joined_append (lines_below n periodic_line) (lines_below m trigger_line ++ end_line ∷ [])
      ∙ ap₂ (λ (x y : List ℕ). x ++ y) (below_joined n periodic_line)
      (joined_append (lines_below m trigger_line) (end_line ∷ []) ∙ ap (λ (x : List ℕ). x ++ e) (below_joined m trigger_line)) in
      ap (λ (x : List ℕ). header_line ++ LINE_END ∷ x) rest
      ∙ sym (append_assoc header_line (LINE_END ∷ []) (p ++ (t ++ e)))
      ∙ sym (append_assoc h p (t ++ e))
      ∙ sym (append_assoc (h ++ p) t e)

-- ---- and no others

module _ (R : Rules) (good : GoodOrder (sheet_in R)) (ls ms : List (List ℕ)) (x : Writes R ls) (y : Writes R ms) where
  same_periodics : x.periodics ≡ y.periodics
  same_periodics =
      ext_get_or [] x.periodics y.periodics (x.periodic_count ∙ sym y.periodic_count) (λ i l.
      let b : i < R.counts.periodics = omega (arith, x.periodic_count) in
      one_periodic R.tables.periodics i _ _ (x.each_periodic i b) (y.each_periodic i b))

  same_triggers : x.triggers ≡ y.triggers
  same_triggers =
      ext_get_or [] x.triggers y.triggers (x.trigger_count ∙ sym y.trigger_count) (λ i l.
      let b : i < R.counts.triggers = omega (arith, x.trigger_count) in
      let few = few_bodies R good i b in
      one_trigger R.tables.triggers i few.0 few.1 _ _ (x.each_trigger i b) (y.each_trigger i b))

  -- THE LAW
  pub writes_one : ls ≡ ms
  writes_one =
      let h : x.header ≡ y.header = one_header R.counts.roles _ _ x.is_header y.is_header in
      let e : x.end ≡ y.end = one_end R.counts.periodics R.counts.triggers _ _ x.is_end y.is_end in
      x.lines
      ∙ (λ i. h i ∷ (same_periodics i ++ (same_triggers i ++ e i ∷ [])))
      ∙ sym y.lines
