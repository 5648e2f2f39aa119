-- The property of a finishing order that makes the second pass right, over plain functions.
--   d v              when the zone v was seen, counted from 1
--   order i          the zone that ended as number i, counted from 0
--   Pair E d x z     what holds of x and z where x ended before z
--   EndedOrdered E d o n   it holds of the first n zones of the order, two by two
--   InOrder o k v    v stands in the order before place k
-- The property speaks of two zones and one entry, and of no run that keeps clear of a set of zones.
use Rattle.std.specs.Prelude.{◌≡◌, ◌⊎◌, ℕ, ◌≤◌, ◌<◌}
use Rattle.arranged.specs.Rows.{Run}

-- of x, which ends before z: either z reaches it and was seen no later, or all its heads were seen before z
abbrev pub Pair : (ℕ → ℕ → Type 0) → (ℕ → ℕ) → ℕ → ℕ → Type 0
Pair E d x z = ((d z ≤ d x) × Run E z x) ⊎ ((v : ℕ) → E x v → d v < d z)

-- the first n zones of the order, the first that ended first
abbrev pub EndedOrdered : (ℕ → ℕ → Type 0) → (ℕ → ℕ) → (ℕ → ℕ) → ℕ → Type 0
EndedOrdered E d order n = (i j : ℕ) → i < j → j < n → Pair E d (order i) (order j)

-- v stands in the order before place k
pub record InOrder (order : ℕ → ℕ) (k v : ℕ) : Type 0 where
  pub at : ℕ
  pub low : at < k
  pub is : order at ≡ v
