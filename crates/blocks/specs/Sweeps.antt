-- The turns of a block and of all blocks, as functions of the memory. `top` has the names of the components, by their
-- places, and `row` their heads.
--   places_turned, places_arcs   the last m of the places before e have had their turns, and the arcs that stay
--   block_end n first            the place behind the last of n components that is of the block
--   block_arcs                   the arcs of one block
--   all_arcs                     the arcs of the first k blocks
--   blocks_of n                  how many blocks n components have
--   block_of at n first          the block of the components from `first` on
--   crossing_arcs w at n         the arcs of all blocks, as they stand in the memory
-- Each goes as its loop goes.
use Rattle.std.specs.Prelude.{ℕ, zero, suc, ◌+◌, ◌-◌, ◌*◌, ◌/◌, min, List, [], ◌++◌}
use Rattle.rules.specs.Lists.{cleared}
use Rattle.rules.specs.Network.{Arc}
use Rattle.workmap.specs.declared.TableAt.{TableAt}
use Rattle.memory.specs.Regions.{cell}
use Rattle.uniting.specs.declared.Block.{Block}
use Rattle.turning.specs.Steps.{place_turned, place_arcs}
use Rattle.uniting.specs.Uniting.{row_heads}

-- the last m of the places before e have had their turns, from the last on
unfoldable pub places_turned : List ℕ → ℕ → (ℕ → List ℕ) → ℕ → ℕ → List ℕ
unfolding place_turned
places_turned w first row e zero = w
places_turned w first row e (suc m) =
    place_turned (places_turned w first row e m) first (e - suc m) (row (e - suc m))

-- the arcs that stay
unfoldable pub places_arcs : (ℕ → ℕ) → List ℕ → ℕ → (ℕ → List ℕ) → ℕ → ℕ → List Arc
unfolding places_turned place_arcs
places_arcs top w first row e zero = []
places_arcs top w first row e (suc m) =
    places_arcs top w first row e m
    ++ place_arcs top (places_turned w first row e m) first (e - suc m) (row (e - suc m))

-- the place behind the last component that is of the block
abbrev pub block_end : ℕ → ℕ → ℕ
block_end n first = min (first + 128) n

-- the arcs of one block
unfoldable pub block_arcs : (ℕ → ℕ) → List ℕ → ℕ → ℕ → (ℕ → List ℕ) → List Arc
unfolding places_arcs
block_arcs top w n first row =
    places_arcs top (cleared (n * 8) w) first row (block_end n first) (block_end n first)

-- the arcs of the first k blocks
unfoldable pub all_arcs : (ℕ → ℕ) → List ℕ → ℕ → (ℕ → List ℕ) → ℕ → List Arc
unfolding block_arcs
all_arcs top w n row zero = []
all_arcs top w n row (suc k) = all_arcs top w n row k ++ block_arcs top w n (k * 128) row

-- how many blocks n components have
abbrev pub blocks_of : ℕ → ℕ
blocks_of n = (n + 127) / 128

-- the block of the components from `first` on
abbrev pub block_of : TableAt → ℕ → ℕ → Block
block_of at n first =
    record { places = n; first = first; tops = at.tops; starts = at.rows.starts; rows = at.rows.rows }

-- the arcs of all blocks, as they stand in the memory
unfoldable pub crossing_arcs : List ℕ → TableAt → ℕ → List Arc
unfolding all_arcs
crossing_arcs w at n = all_arcs (cell w at.tops) w n (row_heads w (block_of at n 0)) (blocks_of n)
