-- What the solver comes to: when every key was reached, the buffer is solved.
-- Assumes nothing.
use Rattle.std.specs.Prelude.{◌≡◌, refl, Bool, List, [], ℕ, ◌≤◌, ◌<◌, length}
use Rattle.std.proofs.Common.{arith}
use Rattle.theory.specs.Numbers.{EVENTS, TRIGGER_ROWS}
use Rattle.theory.specs.Events.{Events}
use Rattle.theory.specs.Sheet.{Sheet}
use Rattle.theory.specs.Instant.{ready, Closed, IsLeast}
use Rattle.theory.specs.Graph.{counts}
use Rattle.theory.proofs.Laws.Levels.{up, levels_stratified, ready_counts}
use Rattle.theory.specs.Solving.{Keys, key_of, Reached}
use Rattle.theory.proofs.Laws.Solving.{keys_are, reached_last}
use Rattle.tables.specs.Layout.{byte_at, sheet_of, triggers_of}
use Rattle.tables.specs.Buffers.{roles_of, events_of}
use Rattle.keys.specs.Keys.{KEYS, key_in}
use Rattle.solver.specs.Solved.{Solved}
pub mod Exact

-- ---- a sheet and its triggers alone

module _ (table : List ℕ) (n a b a' b' : ℕ) (periodics periodics' : List ℕ) (on : ℕ → Bool) where
  abbrev one : Sheet
  one = sheet_of a b n periodics table

  abbrev other : Sheet
  other = sheet_of a' b' n periodics' table

  -- the keys of one sheet are those of another with the same triggers
  same_keys : (level key : ℕ → ℕ) → Keys one on level key → Keys other on level key
  unfolding sheet_of
  same_keys level key k = record { acts = k.acts; above = k.above; idle = k.idle; fits = k.fits }

  -- and what is closed or caused
  same_closed : (G S X : Events) → Closed one on G S X → Closed other on G S X
  unfolding sheet_of
  same_closed G S X c = record { holds_givens = c.holds_givens; holds_heads = c.holds_heads }

same_least : (table : List ℕ) (n a b a' b' : ℕ) (periodics periodics' : List ℕ) (on : ℕ → Bool) (G S X : Events)
    → IsLeast (sheet_of a b n periodics table) on G S X → IsLeast (sheet_of a' b' n periodics' table) on G S X
same_least table n a b a' b' periodics periodics' on G S X s =
    record {
      closed = same_closed table n a b a' b' periodics periodics' on G S X s.closed;
      least = λ Y c. s.least Y (same_closed table n a' b' a b periodics' periodics on G S Y c);
    }

-- ---- the end

-- when every key was reached, the buffer is solved
pub solved_last : (levels table : List ℕ) (n roles : ℕ) (before after : List ℕ) (k : ℕ) → length after ≡ length before → KEYS ≤ k
    → ((i : ℕ) → 0 ≤ i → i < n → key_in table levels roles n i < KEYS)
    → Reached (triggers_of n table) (key_in table levels roles n) (events_of before) k (events_of after)
    → Solved levels table n roles before after
unfolding sheet_of key_of counts ready
solved_last levels table n roles before after k size l fits r =
    let key : ℕ → ℕ = key_in table levels roles n in
    record {
      size = size;
      solves = λ a b periodics _ good lv.
          let sh : Sheet = sheet_of a b n periodics table in
          let on : ℕ → Bool = ready sh (roles_of roles) in
          let height : ℕ → ℕ = up sh (byte_at levels) in
          same_least table n 0 0 a b [] periodics on (events_of before) (events_of after) (events_of after)
          (reached_last (triggers_of n table) key (events_of before) k (events_of after) on height
          (levels_stratified sh (byte_at levels) lv on (ready_counts sh (roles_of roles)))
          (same_keys table n a b 0 0 periodics [] on height key (keys_are sh (roles_of roles) (byte_at levels) key good lv (λ i h. refl)))
          (λ i h. omega (arith, fits i (omega arith) h))
          r);
    }

-- a buffer of another length, or more triggers than a table has
pub solved_none : (levels table : List ℕ) (n roles : ℕ) (before : List ℕ) → (length before ≡ EVENTS → n ≤ TRIGGER_ROWS → ⊥) → Solved levels table n roles before before
unfolding sheet_of
solved_none levels table n roles before h = record { size = refl; solves = λ a b periodics l good lv. absurd (h l good.few_triggers) }
