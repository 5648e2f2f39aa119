-- The second pass in the middle, over plain functions: from the last zone that ended on, each zone that has no root
-- yet gets one, with all unrooted zones that lead to it.
--   Mutual E a b     runs of entries lead from a to b and from b to a
--   Back E F z c     entries lead from c to z, and every zone on the way but z is free
--   root v           0 where v has no root yet, else one more than the zone that is its root
--   Pass ..          the pass when the places from k on of the order are done
--   Topo ..          the queue q lists the zones that have roots, by component, in topological order
-- Its heart is `closed`: a head of an unrooted zone is unrooted. So roots are given in topological order.
use Rattle.std.specs.Prelude.{◌≡◌, ℕ, ◌+◌, ◌<◌}
use Rattle.arranged.specs.Rows.{Run}
use Rattle.search.specs.Marking.{Queued}
use Rattle.descent.specs.Order.{InOrder}

-- each leads to the other
abbrev pub Mutual : (ℕ → ℕ → Type 0) → ℕ → ℕ → Type 0
Mutual E a b = Run E a b × Run E b a

-- c leads to z by entries whose tails are free
pub data Back (E : ℕ → ℕ → Type 0) (Free : ℕ → Type 0) (z : ℕ) : ℕ → Type 0 where
  here : Back E Free z z
  further : {b c : ℕ} → Back E Free z b → E c b → Free c → Back E Free z c

-- the second pass when the places from k on are done
pub record Pass (E : ℕ → ℕ → Type 0) (order root : ℕ → ℕ) (zones k : ℕ) : Type 0 where
  pub taken : (v : ℕ) → v < zones → root v ≡ 0 → InOrder order k v
  pub closed : (u v : ℕ) → E u v → root u ≡ 0 → root v ≡ 0
  pub sound : (v r : ℕ) → v < zones → root v ≡ r + 1 → (r < zones) × ((root r ≡ r + 1) × Mutual E r v)
  pub complete : (u v : ℕ) → u < zones → v < zones → (root u ≡ 0 → ⊥) → Mutual E u v → root v ≡ root u

-- the queue lists the zones that have roots, by component, in topological order
pub record Topo (E : ℕ → ℕ → Type 0) (root q : ℕ → ℕ) (zones tail : ℕ) : Type 0 where
  pub zone : (j : ℕ) → j < tail → q j < zones
  pub named : (j : ℕ) → j < tail → root (q j) ≡ 0 → ⊥
  pub distinct : (i j : ℕ) → i < j → j < tail → q i ≡ q j → ⊥
  pub all : (v : ℕ) → v < zones → (root v ≡ 0 → ⊥) → Queued q 0 tail v
  pub after : (i j : ℕ) → i < j → j < tail → Run E (q j) (q i) → root (q j) ≡ root (q i)
