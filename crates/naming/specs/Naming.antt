-- The lowest zone with the same root, for every zone, over plain functions.
--   root u     the root number of u, never 0
--   low r      0, or one more than the lowest zone so far whose root number is r + 1
--   names u    the name given to u
use Rattle.std.specs.Prelude.{◌≡◌, ℕ, ◌+◌, ◌≤◌, ◌<◌}

-- x is the lowest with the root of u
pub record First (root : ℕ → ℕ) (u x : ℕ) : Type 0 where
  pub low : x ≤ u
  pub same : root x ≡ root u
  pub least : (t : ℕ) → t < x → root t ≡ root u → ⊥

-- the zones below v have their names, and low knows the lowest of every root met so far
pub record Naming (root low names : ℕ → ℕ) (zones v : ℕ) : Type 0 where
  pub known : (r x : ℕ) → r < zones → low r ≡ x + 1
      → (root x ≡ r + 1) × ((x < v) × ((t : ℕ) → t < x → root t ≡ r + 1 → ⊥))
  pub unknown : (r t : ℕ) → r < zones → low r ≡ 0 → t < v → root t ≡ r + 1 → ⊥
  pub named : (u : ℕ) → u < v → First root u (names u)
