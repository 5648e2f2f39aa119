-- The turn of one component, as functions of the memory: row j of the table, eight elements from j * 8 on, has a bit
-- for each of the 128 components from `first` on.
--   noted w first j ks    R: each of the heads ks is taken
--   kept_heads w first j ks   those of the heads that were fresh
--   noted_arcs ..         the arcs from j to these, with their names
--   place_turned, place_arcs   U and then R, and the arcs that stay: those to heads that were not in U
-- Each goes as its loop goes.
use Rattle.std.specs.Prelude.{ℕ, true, false, List, [], ◌∷◌, map}
use Rattle.rules.specs.Network.{Arc, ◌⟶◌}
use Rattle.uniting.specs.Uniting.{united}
use Rattle.taking.specs.Taking.{fresh, taken}

-- R: each of the heads is taken
unfoldable pub noted : List ℕ → ℕ → ℕ → List ℕ → List ℕ
unfolding taken
noted w first j [] = w
noted w first j (k ∷ ks) = noted (taken w first j k) first j ks

-- those of the heads that were fresh
unfoldable pub kept_heads : List ℕ → ℕ → ℕ → List ℕ → List ℕ
unfolding taken
kept_heads w first j [] = []
kept_heads w first j (k ∷ ks) =
    elim (fresh w first j k) [ true ↦ k ∷ kept_heads (taken w first j k) first j ks | false ↦ kept_heads w first j ks ]

-- the arcs from j to these
unfoldable pub noted_arcs : (ℕ → ℕ) → List ℕ → ℕ → ℕ → List ℕ → List Arc
unfolding kept_heads
noted_arcs top w first j ks = map (λ k. top j ⟶ top k) (kept_heads w first j ks)

-- the turn of component j, whose heads are ks: U, and then R
unfoldable pub place_turned : List ℕ → ℕ → ℕ → List ℕ → List ℕ
unfolding united noted
place_turned w first j ks = noted (united w j ks) first j ks

-- the arcs that stay: those to heads that are not in U
unfoldable pub place_arcs : (ℕ → ℕ) → List ℕ → ℕ → ℕ → List ℕ → List Arc
unfolding united noted_arcs
place_arcs top w first j ks = noted_arcs top (united w j ks) first j ks
