-- The elements of a list that name themselves, in their order, over plain functions.
--   q i       the list;   names x   the name of x
--   t j       what was picked, so far m of the first n of q
use Rattle.std.specs.Prelude.{◌≡◌, ℕ, ◌≤◌, ◌<◌}
use Rattle.search.specs.Marking.{Queued}

-- x stands before y among the first n of q
pub record Rise (q : ℕ → ℕ) (n x y : ℕ) : Type 0 where
  pub at : ℕ
  pub later : ℕ
  pub order : at < later
  pub low : later < n
  pub is : q at ≡ x
  pub next : q later ≡ y

-- t has, m of them and in their order, the elements of the first n of q that name themselves
pub record Picks (q names t : ℕ → ℕ) (n m : ℕ) : Type 0 where
  pub few : m ≤ n
  pub own : (j : ℕ) → j < m → names (t j) ≡ t j
  pub from : (j : ℕ) → j < m → Queued q 0 n (t j)
  pub rising : (j k : ℕ) → j < k → k < m → Rise q n (t j) (t k)
  pub all : (i : ℕ) → i < n → names (q i) ≡ q i → Queued t 0 m (q i)
