-- A deep search in the middle, over plain functions: what has ended, what is on the stack, when each zone was seen.
--   d v       when v was seen, 0 where it was not
--   next z    the place in the row of z that is looked at next
--   order i   places below lo hold the zones that have ended, the first to end first; places from hi up to `zones`
--             hold the stack, its top at hi
-- Ended zones and stack share one region, so their room is one equation: what lies between lo and hi is unseen.
use Rattle.std.specs.Prelude.{◌≡◌, ◌⊎◌, ℕ, ◌+◌, ◌-◌, ◌≤◌, ◌<◌}
use Rattle.arranged.specs.Rows.{Rows, Entry, Run}
use Rattle.descent.specs.Order.{Pair}

-- place i holds a zone: one that has ended, or one of the stack
abbrev pub Live : ℕ → ℕ → ℕ → ℕ → Type 0
Live lo hi zones i = (i < lo) ⊎ ((hi ≤ i) × (i < zones))

-- v has ended or is on the stack
pub record SeenListed (order : ℕ → ℕ) (lo hi zones v : ℕ) : Type 0 where
  pub at : ℕ
  pub live : Live lo hi zones at
  pub is : order at ≡ v

-- the state of a deep search: live places hold all seen zones; ended zones have the order's property, among themselves
-- and with the stack; below the top the stack is a run; heads of ended zones and passed heads are seen
pub record Deep (G : Rows) (d order next : ℕ → ℕ) (lo hi : ℕ) : Type 0 where
  pub zone : (i : ℕ) → Live lo hi G.zones i → order i < G.zones
  pub seen : (i : ℕ) → Live lo hi G.zones i → d (order i) ≡ 0 → ⊥
  pub early : (v : ℕ) → v < G.zones → d v ≤ lo + (G.zones - hi)
  pub listed : (v : ℕ) → v < G.zones → (d v ≡ 0 → ⊥) → SeenListed order lo hi G.zones v
  pub pairs : (i j : ℕ) → i < j → j < lo → Pair (Entry G) d (order i) (order j)
  pub over : (i j : ℕ) → i < lo → hi ≤ j → j < G.zones → Pair (Entry G) d (order i) (order j)
  pub chain : (i j : ℕ) → hi ≤ i → i ≤ j → j < G.zones
      → (d (order j) ≤ d (order i)) × Run (Entry G) (order j) (order i)
  pub done : (i v : ℕ) → i < lo → Entry G (order i) v → d v ≡ 0 → ⊥
  pub from : (z : ℕ) → z < G.zones → G.start z ≤ next z
  pub upto : (z : ℕ) → z < G.zones → next z ≤ G.stop z
  pub passed : (z i : ℕ) → z < G.zones → G.start z ≤ i → i < next z → d (G.head i) ≡ 0 → ⊥
