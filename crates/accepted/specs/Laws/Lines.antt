-- Lines that go on to their end leave what was read in order, and their last line is the end frame.
-- Assumes nothing.
use Rattle.std.specs.Prelude.{◌≡◌, List, ℕ}
use Rattle.std.proofs.Common.{sym}
use Rattle.std.proofs.Math.Path.{subst}
use Rattle.theory.specs.Sheet.{GoodOrder}
use Rattle.text.specs.Lines.{Lines, none, endless, line}
use Rattle.frames.specs.Frame.{bytes_of}
use Rattle.line_readers.specs.Walks.{goes, walks}
use Rattle.line_readers.specs.Laws.Walks.{no_goes, walks_first}
use Rattle.kinds.specs.declared.Stage.{Stage}
use Rattle.kinds.specs.declared.Stage.TheVariants.{Start, Rows, Ended}
use Rattle.sheet_tests.specs.Laws.{Passed}
use Rattle.sheet_acts.specs.Acts.{Progress, after}
use Rattle.reader.specs.Lines.{at_end, sheet_reader, reads}
use Rattle.reader.specs.Laws.OneMore.{took_line}
use Rattle.reader.specs.Out.{sheet_read}
use Rattle.accepted.specs.Laws.SoFar.{InOrder, SoFar}
use Rattle.accepted.specs.Laws.Kept.{kept}

module _ (z : Progress) where
  -- from here on the lines go on to their end
  abbrev GoesOn : Progress → Lines → Type 0
  GoesOn s ls = reads (goes s) ls ≡ goes z

  -- the first of them passed, and the others go on
  record First (s : Progress) (l : List ℕ) (ls : Lines) : Type 0 where
    passed : Passed s.seen (bytes_of l)
    others : GoesOn (after s (bytes_of l)) ls

  first_of : (s : Progress) (l : List ℕ) (ls : Lines) → GoesOn s (line l ls) → First s l ls
  first_of s l ls h =
      let x = walks_first sheet_reader s z l ls h in
      let t = took_line s x.0 l x.1 in
      record { passed = t.0; others = subst (λ (y : Progress). GoesOn y ls) (sym t.1) x.2 }

  -- after the last line the end frame was there
  at_end_lem : (g : Stage) (s : Progress) → at_end g s ≡ goes z → InOrder g s → (s ≡ z) × GoodOrder (sheet_read s)
  unfolding at_end
  at_end_lem Start s h g = no_goes _ z h
  at_end_lem Rows s h g = no_goes _ z h
  at_end_lem Ended s h g = (cc, g)

  -- THE LAW
  pub read_so_far : (s : Progress) (ls : Lines) → SoFar s → GoesOn s ls → SoFar z × GoodOrder (sheet_read z)
  unfolding walks
  read_so_far s none x h =
      let e = at_end_lem s.seen.stage s h x.in_order in
      (subst SoFar e.0 x, subst (λ (y : Progress). GoodOrder (sheet_read y)) e.0 e.1)
  read_so_far s (endless l) x h = no_goes _ z h
  read_so_far s (line l ls) x h =
      let y : First s l ls = first_of s l ls h in
      read_so_far (after s (bytes_of l)) ls (kept s (bytes_of l) x y.passed) y.others
