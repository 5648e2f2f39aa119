-- Elements and lists that stand in lent work memory.
--   cell w at i     element i of the region that begins at `at`
--   part w at n     the n elements of w from `at` on
--   Holds w at xs   the list xs stands in w from `at` on
use Rattle.std.specs.Prelude.{◌≡◌, List, ℕ, ◌+◌, length, get_or, take, drop}

-- element i of the region that begins at `at`
abbrev pub cell : List ℕ → ℕ → ℕ → ℕ
cell w at i = get_or w (at + i) 0

-- the n elements of w from `at` on
abbrev pub part : List ℕ → ℕ → ℕ → List ℕ
part w at n = take n (drop at w)

-- the list xs stands in w from `at` on
abbrev pub Holds : List ℕ → ℕ → List ℕ → Type 0
Holds w at xs = part w at (length xs) ≡ xs
