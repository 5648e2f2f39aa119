-- What the contracts of a search say of the marks in lent work memory: a zone is marked where its mark is not 0.
--   FirstFree row marks r   r is the first place of the row whose zone has no mark
--   FirstIn w a b marks r   the same for the row that stands in w from place a up to place b
--   Marked w marks v         zone v has a mark, where the marks stand in w from `marks` on
--   zeros w at n             how many of the n elements from `at` on are 0
use Rattle.std.specs.Prelude.{◌≡◌, List, ℕ, zero, suc, ◌+◌, ◌≤◌, ◌<◌, length, get_or, eqb, Option, Some, None}
use Rattle.rules.specs.Answers.{yes_number}

-- the first place of the row whose zone has no mark, or nothing where every zone of the row has one
abbrev pub FirstFree : List ℕ → List ℕ → Option ℕ → Type 0
FirstFree row marks (Some i) =
    (i < length row)
    × ((get_or marks (get_or row i 0) 0 ≡ 0) × ((k : ℕ) → k < i → get_or marks (get_or row k 0) 0 ≡ 0 → ⊥))
FirstFree row marks None = (k : ℕ) → k < length row → get_or marks (get_or row k 0) 0 ≡ 0 → ⊥

-- zone v has a mark
abbrev pub Marked : List ℕ → ℕ → ℕ → Type 0
Marked w marks v = get_or w (marks + v) 0 ≡ 0 → ⊥

-- the same for the row from place a up to place b of the memory; the place found is counted from a
abbrev pub FirstIn : List ℕ → ℕ → ℕ → ℕ → Option ℕ → Type 0
FirstIn w a b marks (Some i) =
    (a + i < b)
    × ((get_or w (marks + get_or w (a + i) 0) 0 ≡ 0)
    × ((k : ℕ) → a ≤ k → k < a + i → Marked w marks (get_or w k 0)))
FirstIn w a b marks None = (k : ℕ) → a ≤ k → k < b → Marked w marks (get_or w k 0)

-- how many of the n elements from `at` on are 0
unfoldable pub zeros : List ℕ → ℕ → ℕ → ℕ
zeros w at zero = 0
zeros w at (suc n) = zeros w at n + yes_number (eqb (get_or w (at + n) 0) 0)
